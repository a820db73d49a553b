-- Which floors of a port are above others, and which comes first.
use Rattle.std.specs.Prelude.{◌≡◌, ◌<◌, ◌&&◌, ℕ, Bool, true, false, not, List, [], ◌∷◌, Option, Some, None, option_map, slice_get, length}
use Rattle.std.specs.List.{Contains, list_any}
use Rattle.std.specs.Ordering.{is_lt}
use Rattle.vk_spec.specs.Versions.{Version, Ask, ask_of, same_version}
use Rattle.vk_version.specs.Orders.{at_most}
use Rattle.vk_resolution.specs.Keys.{Key, key_cmp}
use Rattle.vk_choices.specs.declared.floors.Floor.{Floor}

-- the one is at most the other, and isn't the same
abbrev pub is_below : Version → Version → Bool
is_below v w = at_most v w && not (same_version v w)

-- a version at or above all these floors
abbrev pub IsAboveAll : List Floor → Version → Type 0
IsAboveAll floors v = (f : Floor) → Contains floors f → at_most f.version v ≡ true

-- the place of a floor at or above all, or none where there is none
abbrev pub IsGreatest : List Floor → Option ℕ → Type 0
IsGreatest floors None = (f : Floor) → Contains floors f → IsAboveAll floors f.version → ⊥
IsGreatest floors (Some n) = (f : Floor) × (slice_get floors n ≡ Some f) × IsAboveAll floors f.version

-- the place of a floor that is at or above each that is at or above all
pub record IsHighest (floors : List Floor) (n : ℕ) : Type 0 where
  pub floor : Floor
  pub at : slice_get floors n ≡ Some floor
  pub highest : (f : Floor) → Contains floors f → IsAboveAll floors f.version → at_most f.version floor.version ≡ true

-- the place of a floor, where one of all floors is above the version, or none where none of these is
abbrev pub LeadsUp : List Floor → List Floor → Version → Option ℕ → Type 0
LeadsUp floors these v None = list_any (λ f. is_below v f.version) these ≡ false
LeadsUp floors these v (Some n) = (n < length floors) × (list_any (λ f. is_below v f.version) floors ≡ true)

-- no floor is above it
abbrev pub is_top : List Floor → Version → Bool
is_top floors v = not (list_any (λ f. is_below v f.version) floors)

-- tops are told by text, then by port-version
abbrev pub ask_key : Ask → Key
ask_key a = a.text ∷ (a.port ∷ []) ∷ []

-- the one is told before the other
abbrev pub is_sooner : Version → Version → Bool
is_sooner v w = is_lt (key_cmp (ask_key (ask_of v)) (ask_key (ask_of w)))

-- it is told after the one, if there is one
abbrev pub is_after : Option Version → Version → Bool
is_after None v = true
is_after (Some u) v = is_sooner u v

-- a top that comes after a version
abbrev pub is_later_top : List Floor → Option Version → Floor → Bool
is_later_top floors after f = is_after after f.version && is_top floors f.version

-- it is told before the one, if there is one
abbrev pub is_ahead : Option Floor → Floor → Bool
is_ahead None f = true
is_ahead (Some g) f = is_sooner f.version g.version

-- the first of the floors that pass, or none where none passes
abbrev pub IsFirst : (Floor → Bool) → List Floor → Option Floor → Type 0
IsFirst test floors None = (f : Floor) → Contains floors f → test f ≡ false
IsFirst test floors (Some g) = Contains floors g × (test g ≡ true) × ((f : Floor) → Contains floors f → test f ≡ true → is_sooner f.version g.version ≡ false)

-- the version of a floor, if there is one
abbrev pub floor_version : Option Floor → Option Version
floor_version o = option_map (λ f. f.version) o

-- two floors, if both are there
abbrev pub both : Option Floor → Option Floor → Option (Floor × Floor)
both None o = None
both (Some f) None = None
both (Some f) (Some g) = Some (f, g)

-- the first top and the next one, or none where there are less than two
pub record AreFirstTwo (floors : List Floor) (two : Option (Floor × Floor)) : Type 0 where
  pub first : Option Floor
  pub is_first : IsFirst (is_later_top floors None) floors first
  pub second : Option Floor
  pub is_second : IsFirst (is_later_top floors (floor_version first)) floors second
  pub told : two ≡ both first second
