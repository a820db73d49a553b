use Rattle.vk_order.proofs.PeelingLemmas.{above_step}
use Rattle.vk_order.proofs.peeling.height_above.Goals as goal

pub loop-need-preserved : goal.loop-need-preserved
loop-need-preserved c = above_step _ _ _ _ _ _ c.loop-need-test.true c.in_ok-lower.was c.loop-need.invariant c.max-height.ensures
