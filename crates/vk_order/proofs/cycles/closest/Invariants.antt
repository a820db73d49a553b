use Rattle.std.proofs.Common.{take}
use Rattle.vk_order.specs.Ways.{IsClosestOf}
use Rattle.vk_order.proofs.cycles.closest.Given as goal

abbrev pub invariant-loop-need : goal.invariant-loop-need
invariant-loop-need l = IsClosestOf (take l.need-index l.needs) l.lengths l.best
