use Rattle.std.proofs.Common.{◌-◌, length}
use Rattle.vk_order.specs.Needs.{needs_of, known_in}
use Rattle.vk_order.specs.Peeling.{AreRight}
use Rattle.vk_order.proofs.peeling.heights_of.Given as goal

abbrev pub invariant-loop : goal.invariant-loop
invariant-loop l = AreRight (needs_of l.items) l.heights.items

abbrev pub decreases-loop : goal.decreases-loop
decreases-loop l = length l.items - known_in l.heights.items
