use Rattle.std.proofs.Common.{◌≡◌, ◌<◌, ℕ, length, slice_index_or}
use Rattle.std.specs.Prelude.{Option}
use Rattle.vk_order.specs.Needs.{known_at}
use Rattle.vk_order.proofs.moves.ranked.Given as goal

abbrev pub invariant-loop-place : goal.invariant-loop-place
invariant-loop-place l = (length l.places.items ≡ l.place) × ((k : ℕ) (d : Option ℕ × ℕ) → k < l.place → slice_index_or l.places.items k d ≡ (known_at l.heights k, k))
