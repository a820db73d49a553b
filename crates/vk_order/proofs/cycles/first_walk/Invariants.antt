use Rattle.std.proofs.Common.{◌≡◌, ◌<◌, ℕ}
use Rattle.std.specs.Prelude.{None}
use Rattle.vk_order.specs.Needs.{needs_of, known_at}
use Rattle.vk_order.specs.Ways.{IsOnNone}
use Rattle.vk_order.proofs.cycles.first_walk.Given as goal

abbrev pub invariant-loop-place : goal.invariant-loop-place
invariant-loop-place l = (k : ℕ) → k < l.place → known_at l.heights k ≡ None → IsOnNone (needs_of l.items) k
