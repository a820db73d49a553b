-- Notes on keys: pairs of a key and what is known of it.
use Rattle.std.specs.Prelude.{◌≡◌, ◌<◌, ℕ, Bool, List, [], ◌∷◌, Some, length, option_map, slice_get}
use Rattle.std.specs.List.{position}
use Rattle.std.specs.Map.{keys_of, lookup}

-- each note is right
abbrev pub AreRight : {K V : Type 0} → (K → V → Type 0) → List (K × V) → Type 0
AreRight P [] = Unit {0}
AreRight P (e ∷ es) = P e.0 e.1 × AreRight P es

-- the note at a place, counted from 0, is the first under a key that passes a test, and so the one that is found
pub record IsNoteAt {K V : Type 0} (test : K → Bool) (notes : List (K × V)) (place : ℕ) : Type 0 where
  pub first : position test (keys_of notes) ≡ Some place
  pub within : place < length notes
  pub found : lookup test notes ≡ option_map (λ e. e.1) (slice_get notes place)
