use Rattle.std.proofs.Common.{◌≡◌, ◌<◌, ℕ}
use Rattle.std.specs.Prelude.{None}
use Rattle.vk_order.specs.Needs.{known_at}
use Rattle.vk_order.proofs.cycles.are_known.Given as goal

abbrev pub invariant-loop-height : goal.invariant-loop-height
invariant-loop-height l = (k : ℕ) → k < l.height-index → known_at l.heights k ≡ None → ⊥
