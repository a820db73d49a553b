use Rattle.std.proofs.Common.{length}
use Rattle.vk_order.specs.Components.{IsClimb, steps_of}
use Rattle.vk_order.proofs.components.Climb.climb.Given as goal

abbrev pub invariant-loop-place : goal.invariant-loop-place
invariant-loop-place l = IsClimb (length l.users) l.self

abbrev pub decreases-loop-place : goal.decreases-loop-place
decreases-loop-place l = steps_of l.self
