use Rattle.std.proofs.Common.{take}
use Rattle.vk_order.specs.Components.{AreLower}
use Rattle.vk_order.proofs.components.are_lower.Given as goal

abbrev pub invariant-loop-place : goal.invariant-loop-place
invariant-loop-place l = AreLower (take l.place-index l.places) l.components l.limit
