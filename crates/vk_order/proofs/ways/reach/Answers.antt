use Rattle.vk_order.proofs.WayLemmas.{reached_step}
use Rattle.vk_order.proofs.ways.reach.Goals as goal

pub loop-place-preserved : goal.loop-place-preserved
loop-place-preserved c = reached_step _ _ _ _ _ _ _ _ _ c.loop-place-test.true c.loop-place.invariant c.in_ok-reach_one.ensures
