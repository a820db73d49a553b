use Rattle.std.proofs.Common.{length}
use Rattle.vk_order.specs.Components.{IsClimb}
use Rattle.vk_order.proofs.components.done_of.Given as goal

abbrev pub invariant-loop-place : goal.invariant-loop-place
invariant-loop-place l = IsClimb (length l.users) l.climb
