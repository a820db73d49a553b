-- What the floors of ports come to: choices, or conflicts that are told.
use Rattle.std.specs.Prelude.{◌≡◌, ◌++◌, ℕ, false, List, [], ◌∷◌, map, flat_map, Option, Some, None, IfSome}
use Rattle.std.specs.List.{Contains}
use Rattle.std.specs.Map.{keys_of}
use Rattle.vk_spec.specs.Versions.{Version, ask_of}
use Rattle.vk_spec.specs.Settings.{Setting}
use Rattle.vk_spec.specs.Catalogues.{ArePages}
use Rattle.vk_resolution.specs.Givens.{Pages, is_pinned}
use Rattle.vk_resolution.specs.Asking.{Fact, floor}
use Rattle.vk_resolution.specs.Choices.{chosen_of, floors_of, greatest_of}
use Rattle.vk_resolution.specs.Reasons.{line_of}
use Rattle.vk_resolution.specs.Faults as plain
use Rattle.vk_resolution.specs.Faults.{conflicts_of}
use Rattle.vk_resolution.specs.Planner.{inputs_of}
use Rattle.vk_resolution.specs.Selections as choice
use Rattle.vk_resolution.specs.Selections.{IsChoice}
use Rattle.vk_model.specs.FaultViews.{fault_view}
use Rattle.vk_choices.specs.declared.asks.Asked.{Asked}
use Rattle.vk_choices.specs.declared.floors.Floor.{Floor}
use Rattle.vk_choices.specs.declared.settling.Settled.{Settled}
use Rattle.vk_choices.specs.ChoiceViews.{choices_view}
use Rattle.vk_choices.specs.Asks.{AskOnLine, asked_view}
use Rattle.vk_choices.specs.Rows.{Rows}
use Rattle.vk_choices.specs.Floors.{versions_of, AreFloors, floors_for}
use Rattle.vk_choices.specs.Tops.{IsAboveAll, IsGreatest, AreFirstTwo}

-- a floor as the choice of its port
abbrev pub choice_on : List ℕ → Floor → choice.Choice
choice_on p f = record { port = p; version = f.version; line = f.line }

-- two floors in conflict, if there are two
abbrev pub conflict_on : List ℕ → Option (Floor × Floor) → List plain.Fault
conflict_on p None = []
conflict_on p (Some two) = plain.conflicts p two.0.version two.0.line two.1.version two.1.line ∷ []

-- the choices that were made
abbrev pub chosen_in : Settled → List choice.Choice
chosen_in s = choices_view s.choices

-- the conflicts that were told
abbrev pub told_in : Settled → List plain.Fault
told_in s = map fault_view s.conflicts.items

-- the first two tops of a port are told besides
pub record TellsTwo (p : List ℕ) (floors : List Floor) (old new : List plain.Fault) : Type 0 where
  pub two : Option (Floor × Floor)
  pub are : AreFirstTwo floors two
  pub told : new ≡ old ++ conflict_on p two

-- a port is settled besides: it has its greatest floor, or it is told that there is none
pub data IsAdded (p : List ℕ) (floors : List Floor) (old new : Settled) : Type 0 where
  by_choice : (f : Floor) → Contains floors f → IsAboveAll floors f.version → chosen_in new ≡ chosen_in old ++ choice_on p f ∷ [] → told_in new ≡ told_in old → IsAdded p floors old new
  by_conflict : IsGreatest floors None → TellsTwo p floors (told_in old) (told_in new) → chosen_in new ≡ chosen_in old → IsAdded p floors old new

-- so a port of which this is asked is settled by its floors
pub record IsAddedFor (o : Option Pages) (p : List ℕ) (asks : List AskOnLine) (old new : Settled) : Type 0 where
  pub floors : List Floor
  pub are : IfSome o (λ pages. AreFloors pages p asks floors)
  pub added : IsAdded p floors old new

-- what is known of a port's floors, where they are all that the facts have
pub record IsRow (setting : Setting) (pages : Pages) (facts : List Fact) (p : List ℕ) (floors : List Floor) : Type 0 where
  pub chosen : chosen_of (inputs_of setting pages) facts p ≡ greatest_of (inputs_of setting pages) (versions_of floors)
  pub free : greatest_of (inputs_of setting pages) (versions_of floors) ≡ None → is_pinned setting pages p ≡ false
  pub versions : versions_of floors ≡ floors_of (inputs_of setting pages) facts p
  pub lines : (f : Floor) → Contains floors f → line_of facts (floor p (ask_of f.version)) ≡ Some f.line
  pub apart : (f g : Floor) → Contains floors f → Contains floors g → ask_of f.version ≡ ask_of g.version → f.version ≡ g.version

-- so it is of each row
abbrev pub AreRows : Setting → Pages → List Fact → Rows Floor → Type 0
AreRows setting pages facts rows = (e : List ℕ × List Floor) → Contains rows e → IsRow setting pages facts e.0 e.1

-- the choices and the conflicts of some ports
pub record AreSettled (setting : Setting) (pages : Pages) (facts : List Fact) (ports : List (List ℕ)) (choices : List choice.Choice) (conflicts : List plain.Fault) : Type 0 where
  pub each : (c : choice.Choice) → Contains choices c → IsChoice (inputs_of setting pages) facts c
  pub all : ((p : List ℕ) → Contains ports p → (v : Version) × (chosen_of (inputs_of setting pages) facts p ≡ Some v)) → map (λ c. c.port) choices ≡ ports
  pub told : conflicts ≡ flat_map (λ p. conflicts_of (inputs_of setting pages) facts p (chosen_of (inputs_of setting pages) facts p)) ports

-- where the rows are those of facts, these are the choices and the conflicts of their ports
abbrev pub Settles : Rows Floor → Settled → Type 0
Settles rows s = (setting : Setting) (pages : Pages) (facts : List Fact) → AreRows setting pages facts rows → AreSettled setting pages facts (keys_of rows) (chosen_in s) (told_in s)

-- these are the choices and the conflicts of the ports of which this is asked, and where anything is asked, these are pages
pub record AreSettledFor (pages : Pages) (rows : Rows Asked) (s : Settled) : Type 0 where
  pub settles : Settles (floors_for pages rows) s
  pub sound : (e : List ℕ × List Asked) (a : AskOnLine) → Contains rows e → Contains (map asked_view e.1) a → ArePages pages

-- the ports that have a choice
abbrev pub ports_in : Settled → List (List ℕ)
ports_in s = keys_of s.choices.ports.entries
