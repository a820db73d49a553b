-- The version of a port: its floors, the one that is chosen from them, and when they are in conflict.
use Rattle.std.specs.Prelude.{◌≡◌, ℕ, Bool, false, not, List, [], ◌∷◌, filter, filter_map, Option, Some, None, Result, Ok, Err, bytes_eq, if◌then◌else◌, ◌≢◌}
use Rattle.std.specs.List.{list_any, list_all, find}
use Rattle.vk_spec.specs.Versions.{Class, dot, date, text, Version}
use Rattle.vk_spec.specs.Pages.{Wrong, Given, overlay, override, baseline}
use Rattle.vk_resolution.specs.Keys.{Key, in_order}
use Rattle.vk_resolution.specs.Givens.{version_at, is_pinned, Pages}
use Rattle.vk_resolution.specs.Asking.{Fact, need, floor, visit}
use Rattle.vk_resolution.specs.Consequences.{Inputs, is_below}

-- the version that a fact asks of a port as a floor, where the table has it
abbrev pub floor_in : Pages → List ℕ → Fact → Option Version
floor_in pages p (need who f) = None
floor_in pages p (floor q a) = if bytes_eq q p then version_at pages p a else None
floor_in pages p (visit i f a) = None

-- the floors of a port among the facts
abbrev pub floors_of : Inputs → List Fact → List ℕ → List Version
floors_of inputs facts p = filter_map (floor_in inputs.pages p) facts

-- the version of a given version that was found
abbrev pub given_version_of : Pages → List ℕ → Result Given Wrong → Option Version
given_version_of pages p (Ok (overlay v)) = Some v
given_version_of pages p (Ok (override a)) = version_at pages p a
given_version_of pages p (Ok (baseline a)) = version_at pages p a
given_version_of pages p (Err wrong) = None

-- the one at or above all of them
abbrev pub greatest_of : Inputs → List Version → Option Version
greatest_of inputs floors = find (λ v. list_all (λ w. inputs.at_most w v) floors) floors

-- a pinned port has its given version, any other the floor at or above all its floors
abbrev pub chosen_of : Inputs → List Fact → List ℕ → Option Version
chosen_of inputs facts p =
    if is_pinned inputs.setting inputs.pages p then given_version_of inputs.pages p (inputs.pages p).given else greatest_of inputs (floors_of inputs facts p)

-- a port that isn't pinned, and that has floors, but none at or above all of them
pub record IsInConflict (inputs : Inputs) (facts : List Fact) (p : List ℕ) : Type 0 where
  pub free : is_pinned inputs.setting inputs.pages p ≡ false
  pub some : floors_of inputs facts p ≢ []
  pub none : chosen_of inputs facts p ≡ None

-- versions by text and port-version (and then by class, which decides between no two versions of one table)
abbrev pub class_number : Class → ℕ
class_number dot = 0
class_number date = 1
class_number text = 2

-- the order in which the floors in conflict are told
abbrev pub version_key : Version → Key
version_key v = v.text ∷ (v.port ∷ []) ∷ (class_number v.class ∷ []) ∷ []

-- the floors that no other is above, in that order
abbrev pub is_top : Inputs → List Version → Version → Bool
is_top inputs floors v = not (list_any (is_below inputs v) floors)

-- those floors, in order and each once
abbrev pub tops_of : Inputs → List Version → List Version
tops_of inputs floors = in_order version_key (filter (is_top inputs floors) floors)
