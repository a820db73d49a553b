use Rattle.std.proofs.Common.{arith}
use Rattle.vk_order.proofs.UserLemmas.{put_step}
use Rattle.vk_order.proofs.users.put_user.Goals as goal

pub loop-need-preserved : goal.loop-need-preserved
loop-need-preserved c = put_step _ _ _ _ _ _ _ c.loop-need-test.true (omega (arith, c.requires c.loop-need.need-index 0 c.loop-need-test.true)) c.in_ok-push.ensures.ok c.loop-need.invariant
