use Rattle.std.proofs.Common.{◌≡◌, ◌<◌, ℕ, length, slice_index_or}
use Rattle.vk_order.proofs.moves.new_places.Given as goal

abbrev pub invariant-loop-new : goal.invariant-loop-new
invariant-loop-new l = (length l.places.items ≡ length l.order) × ((m d e : ℕ) → m < l.new → slice_index_or l.places.items (slice_index_or l.order m d) e ≡ m)
