use Rattle.std.proofs.Common.{◌+◌, take, sym, subst}
use Rattle.vk_order.specs.Ways.{IsClosestOf}
use Rattle.vk_order.proofs.WalkLemmas.{closest_step}
use Rattle.vk_order.proofs.cycles.closest.Goals as goal

pub loop-need-preserved : goal.loop-need-preserved
loop-need-preserved c = subst (IsClosestOf (take (c.loop-need.need-index + 1) c.args.needs.now) c.args.lengths.now) (sym c.nearer-best.ensures) (closest_step _ _ _ _ c.loop-need-test.true c.loop-need.invariant)
