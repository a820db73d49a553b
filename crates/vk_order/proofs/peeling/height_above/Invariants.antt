use Rattle.std.proofs.Common.{take}
use Rattle.vk_order.specs.Peeling.{IsAbove}
use Rattle.vk_order.proofs.peeling.height_above.Given as goal

abbrev pub invariant-loop-need : goal.invariant-loop-need
invariant-loop-need l = IsAbove (take l.need-index l.needs) l.heights l.height
