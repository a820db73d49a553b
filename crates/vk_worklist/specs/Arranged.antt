-- Lines from a place on that change places, and how far they are in order.
use Rattle.std.specs.Prelude.{◌≡◌, ◌+◌, ◌-◌, ◌<◌, ◌≤◌, ℕ, Bool, false, List, length, take, drop, slice_index_or}
use Rattle.std.specs.List.Sorted.{IsPermutation}
use Rattle.std.specs.Ordering.{is_lt}
use Rattle.vk_model.specs.declared.facts.Fact.{Fact}
use Rattle.vk_model.specs.declared.reasons.Cause.{Cause}
use Rattle.vk_worklist.specs.Orders.{fact_order}

-- those behind the settled ones changed places, and no others
pub record IsArranged (settled : ℕ) (old new : List (Fact × Cause)) : Type 0 where
  pub long : length new ≡ length old
  pub kept : take settled new ≡ take settled old
  pub moved : IsPermutation (drop settled old) (drop settled new)

-- the fact of the one is less than that of the other
abbrev pub is_less : Fact × Cause → Fact × Cause → Bool
is_less e f = is_lt (fact_order e.0 f.0)

-- no fact of those from low up to high is less than the one before it
abbrev pub IsInOrder : ℕ → ℕ → List (Fact × Cause) → Type 0
IsInOrder low high es = (k : ℕ) (d : Fact × Cause) → low ≤ k → k + 1 < high → is_less (slice_index_or es (k + 1) d) (slice_index_or es k d) ≡ false

-- they changed places, and are in order
pub record IsPutInOrder (settled : ℕ) (old new : List (Fact × Cause)) : Type 0 where
  pub arranged : IsArranged settled old new
  pub order : IsInOrder settled (length new) new

-- neighbours are in order but for the one at a place and that before it, and the one behind it isn't less than that before it
pub record IsSifted (low high place : ℕ) (es : List (Fact × Cause)) : Type 0 where
  pub order : (k : ℕ) (d : Fact × Cause) → low ≤ k → k + 1 < high → (k + 1 ≡ place → ⊥) → is_less (slice_index_or es (k + 1) d) (slice_index_or es k d) ≡ false
  pub over : (d : Fact × Cause) → low < place → place + 1 < high → is_less (slice_index_or es (place + 1) d) (slice_index_or es (place - 1) d) ≡ false
