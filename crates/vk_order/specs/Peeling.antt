-- Heights by places, from those that need nothing on.
use Rattle.std.specs.Prelude.{◌≡◌, ◌<◌, ◌+◌, ℕ, suc, List, length, Option, Some, None, Bool, true, false}
use Rattle.std.specs.List.{Contains}
use Rattle.vk_order.specs.Needs.{listed_at, known_at, known_in}

-- all that is needed is lower, and something is lower by one
pub record IsAbove (needs : List ℕ) (heights : List (Option ℕ)) (h : ℕ) : Type 0 where
  pub lower : (n : ℕ) → Contains needs n → (m : ℕ) × (known_at heights n ≡ Some m) × (m < h)
  pub next : (m : ℕ) → h ≡ suc m → (n : ℕ) × Contains needs n × (known_at heights n ≡ Some m)

-- something that is needed has no known height
abbrev pub IsHeld : List ℕ → List (Option ℕ) → Type 0
IsHeld needs heights = (n : ℕ) × Contains needs n × (known_at heights n ≡ None)

-- heights that are right as far as they are known
pub record AreRight (needs : List (List ℕ)) (heights : List (Option ℕ)) : Type 0 where
  pub long : length heights ≡ length needs
  pub each : (k h : ℕ) → known_at heights k ≡ Some h → IsAbove (listed_at needs k) heights h
  pub few : (k h : ℕ) → known_at heights k ≡ Some h → h < known_in heights

-- what has no height needs something that has none
abbrev pub AreAllHeld : List (List ℕ) → List (Option ℕ) → Type 0
AreAllHeld needs heights = (k : ℕ) → k < length needs → known_at heights k ≡ None → IsHeld (listed_at needs k) heights

-- all heights that there are
pub record AreHeights (needs : List (List ℕ)) (heights : List (Option ℕ)) : Type 0 where
  pub right : AreRight needs heights
  pub held : AreAllHeld needs heights

-- one more height is known, or none and the place has one or is held
abbrev pub IsSettled : List (List ℕ) → ℕ → Bool → List (Option ℕ) → List (Option ℕ) → Type 0
IsSettled needs k true before after = known_in after ≡ known_in before + 1
IsSettled needs k false before after = (after ≡ before) × (known_at before k ≡ None → IsHeld (listed_at needs k) before)
