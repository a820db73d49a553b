use Rattle.vk_order.proofs.WayLemmas.{level_step}
use Rattle.vk_order.proofs.ways.next_level.Goals as goal

pub loop-place-preserved : goal.loop-place-preserved
loop-place-preserved c = level_step _ _ _ _ _ _ _ _ _ _ _ c.loop-place-test.true c.users_at.ensures c.loop-place.invariant c.in_ok-reach.ensures
