use Rattle.std.proofs.Common.{◌<◌, ◌≤◌, ℕ}
use Rattle.std.specs.List.{Contains}
use Rattle.vk_order.specs.Needs.{listed_at, needs_of}
use Rattle.vk_order.specs.Components.{component_at}
use Rattle.vk_order.proofs.components.fit.Given as goal

abbrev pub invariant-loop-place : goal.invariant-loop-place
invariant-loop-place l = (k n : ℕ) → k < l.place → Contains (listed_at (needs_of l.items) k) n → component_at l.components n ≤ component_at l.components k
