-- The floors of ports, each with the line that says so.
use Rattle.std.specs.Prelude.{◌≡◌, ℕ, List, [], ◌∷◌, map, filter_map, flat_map, Option, Some, option_map}
use Rattle.std.specs.List.{Contains}
use Rattle.vk_spec.specs.Versions.{Version, Ask, ask_of}
use Rattle.vk_spec.specs.Catalogues.{ArePages, CanAskVersion}
use Rattle.vk_resolution.specs.Givens.{Pages, version_at}
use Rattle.vk_resolution.specs.Asking.{Fact, floor}
use Rattle.vk_resolution.specs.Choices.{floor_in}
use Rattle.vk_resolution.specs.Reasons.{fact_at}
use Rattle.vk_choices.specs.declared.asks.Asked.{Asked}
use Rattle.vk_choices.specs.declared.floors.Floor.{Floor}
use Rattle.vk_choices.specs.Asks.{AskOnLine, asked_view}
use Rattle.vk_choices.specs.Rows.{Rows, listed_of, NoneIsEmpty, AreInOrder}

-- the versions of floors
abbrev pub versions_of : List Floor → List Version
versions_of floors = map (λ f. f.version) floors

-- the rows have the floors of all these facts, each with its line
pub record HaveFloors (pages : Pages) (facts : List Fact) (rows : Rows Floor) : Type 0 where
  pub versions : (p : List ℕ) → versions_of (listed_of rows p) ≡ filter_map (floor_in pages p) facts
  pub lines : (p : List ℕ) (f : Floor) → Contains (listed_of rows p) f → fact_at facts f.line ≡ Some (floor p (ask_of f.version))
  pub some : NoneIsEmpty rows
  pub ordered : AreInOrder rows
  pub sound : (p : List ℕ) (a : Ask) → Contains facts (floor p a) → ArePages pages

-- a version with a line
abbrev pub on_line : ℕ → Version → Floor
on_line n v = record { version = v; line = n }

-- the floor of a port for what is asked, if the table has it
abbrev pub floor_for : Pages → List ℕ → AskOnLine → Option Floor
floor_for pages p a = option_map (on_line a.line) (version_at pages p a.ask)

-- the floors of a port are those for all that is asked of it
pub record AreFloors (pages : Pages) (p : List ℕ) (asks : List AskOnLine) (floors : List Floor) : Type 0 where
  pub are : floors ≡ filter_map (floor_for pages p) asks
  pub sound : (a : AskOnLine) → Contains asks a → ArePages pages

-- the row of a port with these floors, if it has any
abbrev pub row_with : List ℕ → List Floor → Rows Floor
row_with p [] = []
row_with p (f ∷ floors) = (p, f ∷ floors) ∷ []

-- the floors of each port that has any, for what is asked
abbrev pub floors_for : Pages → Rows Asked → Rows Floor
floors_for pages rows = flat_map (λ e. row_with e.0 (filter_map (floor_for pages e.0) (map asked_view e.1))) rows

-- the version of a floor among these facts can be asked for
abbrev pub CanAskFloors : List Fact → Pages → Type 0
CanAskFloors facts pages = (p : List ℕ) (a : Ask) → Contains facts (floor p a) → CanAskVersion (pages p)

-- so those of these ports
abbrev pub CanAskPorts : List (List ℕ) → Pages → Type 0
CanAskPorts ports pages = (p : List ℕ) → Contains ports p → CanAskVersion (pages p)
