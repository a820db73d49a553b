-- Items by their places: what each needs, who needs it, and numbers that are known of places.
use Rattle.std.specs.Prelude.{◌≡◌, ◌<◌, ◌⊎◌, ℕ, List, [], length, map, Option, None, count_by, is_some, slice_index_or}
use Rattle.std.specs.List.{Contains}
use Rattle.vk_model.specs.declared.plans.Item.{Item}

-- what each item needs
abbrev pub needs_of : List Item → List (List ℕ)
needs_of items = map (λ item. item.needs) items

-- what the item at a place needs, or who needs it
abbrev pub listed_at : List (List ℕ) → ℕ → List ℕ
listed_at lists k = slice_index_or lists k []

-- the number of a place, where it is known
abbrev pub known_at : List (Option ℕ) → ℕ → Option ℕ
known_at numbers k = slice_index_or numbers k None

-- of how many places the number is known
abbrev pub known_in : List (Option ℕ) → ℕ
known_in numbers = count_by is_some numbers

-- all that is needed are places
abbrev pub ArePlaces : List (List ℕ) → Type 0
ArePlaces needs = (k n : ℕ) → Contains (listed_at needs k) n → n < length needs

-- the places of those who need each
pub record AreUsers (needs users : List (List ℕ)) : Type 0 where
  pub long : length users ≡ length needs
  pub to : (k n : ℕ) → Contains (listed_at needs k) n → Contains (listed_at users n) k
  pub from : (k n : ℕ) → Contains (listed_at users n) k → Contains (listed_at needs k) n

-- the lists where a place is put into each that is named
pub record IsPutInto (place : ℕ) (named : List ℕ) (before after : List (List ℕ)) : Type 0 where
  pub long : length after ≡ length before
  pub kept : (k n : ℕ) → Contains (listed_at before n) k → Contains (listed_at after n) k
  pub put : (n : ℕ) → Contains named n → Contains (listed_at after n) place
  pub only : (k n : ℕ) → Contains (listed_at after n) k → Contains (listed_at before n) k ⊎ ((k ≡ place) × Contains named n)
