-- Places in the order of heights, and what moves with them.
use Rattle.std.specs.Prelude.{◌≡◌, ◌<◌, ◌⊎◌, ℕ, List, length, Option, Some, slice_index_or}
use Rattle.std.specs.List.{Contains}
use Rattle.std.specs.List.Sorted.{IsStrictlyIncreasing}
use Rattle.vk_order.specs.Needs.{known_at}

-- one place stands before another: by height, then by place
abbrev pub IsEarlier : List (Option ℕ) → ℕ → ℕ → Type 0
IsEarlier heights j k = (m n : ℕ) → known_at heights j ≡ Some m → known_at heights k ≡ Some n → (m < n) ⊎ ((m ≡ n) × (j < k))

-- no place stands twice
abbrev pub StandOnce : List ℕ → Type 0
StandOnce places = (i j d : ℕ) → i < j → j < length places → slice_index_or places i d ≡ slice_index_or places j d → ⊥

-- all places, by height and place
pub record IsHeightOrder (heights : List (Option ℕ)) (order : List ℕ) : Type 0 where
  pub long : length order ≡ length heights
  pub all : (k : ℕ) → k < length heights → Contains order k
  pub only : (k : ℕ) → Contains order k → k < length heights
  pub once : StandOnce order
  pub earlier : (i j d : ℕ) → i < j → j < length order → IsEarlier heights (slice_index_or order i d) (slice_index_or order j d)

-- the new place of each old one
pub record AreNewPlaces (order places : List ℕ) : Type 0 where
  pub long : length places ≡ length order
  pub each : (m d e : ℕ) → m < length order → slice_index_or places (slice_index_or order m d) e ≡ m

-- needs by their new places, in order, each once
pub record AreRenumbered (places old new : List ℕ) : Type 0 where
  pub rises : IsStrictlyIncreasing new
  pub to : (n : ℕ) → Contains old n → Contains new (slice_index_or places n 0)
  pub from : (m : ℕ) → Contains new m → (n : ℕ) × Contains old n × (slice_index_or places n 0 ≡ m)

-- each place with its height
pub record AreRanked (heights : List (Option ℕ)) (places : List (Option ℕ × ℕ)) : Type 0 where
  pub long : length places ≡ length heights
  pub each : (k : ℕ) (d : Option ℕ × ℕ) → k < length heights → slice_index_or places k d ≡ (known_at heights k, k)
