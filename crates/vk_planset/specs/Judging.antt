-- The third phase, by the flaws that are kept and the choices.
use Rattle.std.specs.Prelude.{ℕ, List, [], ◌∷◌, map, Option, Some, None, option_map, option_and_then, position, slice_get, bytes_eq}
use Rattle.std.specs.Map.{lookup}
use Rattle.vk_spec.specs.Versions.{Version}
use Rattle.vk_resolution.specs.Settings.{Who, root, inst}
use Rattle.vk_resolution.specs.Asking.{Fact, need, floor, visit, same_fact}
use Rattle.vk_resolution.specs.Consequences.{Inputs}
use Rattle.vk_resolution.specs.Faults as plain
use Rattle.vk_resolution.specs.Reasons.{Reason, facts_of}
use Rattle.vk_resolution.specs.Selections.{IsChoices}
use Rattle.vk_model.specs.declared.faults.Fault.{Fault}
use Rattle.vk_model.specs.FaultViews.{fault_view}
use Rattle.vk_rules.specs.Flaws.{flaw_faults}
use Rattle.vk_rules.specs.declared.flaws.Flaw.{Flaw}
use Rattle.vk_choices.specs.declared.chosen.Choice.{Choice}
use Rattle.vk_choices.specs.ChoiceViews.{choice_view}
use Rattle.vk_choices.specs.Clear.{IsClear}
use Rattle.vk_planned.specs.Flaws.{AreFlaws, flaw_in}
use Rattle.vk_planset.specs.Assembled.{IsPlannedGraph}

-- the line of a fault, if there is one
abbrev pub faults_in : Option Fault → List plain.Fault
faults_in None = []
faults_in (Some fault) = fault_view fault ∷ []

-- the version that is told with a need: that of its port's choice
abbrev pub version_told : List (List ℕ × Choice) → Who → Option Version
version_told choices (root triplet) = None
version_told choices (inst i) = option_map (λ c. c.version) (lookup (bytes_eq i.port) choices)

-- the line of a flaw of a fact
abbrev pub flaw_told : List (List ℕ × Choice) → Fact → Option Flaw → ℕ → List plain.Fault
flaw_told choices (need who f) flaw n = flaw_faults who f (version_told choices who) n flaw
flaw_told choices (floor p a) flaw n = []
flaw_told choices (visit i f a) flaw n = []

-- the flaw that is kept of a fact, if it is among the needs
abbrev pub flaw_of : List Fact → List (Option Flaw) → Fact → Option Flaw
flaw_of needs flaws x = option_and_then (λ m. flaw_in (slice_get flaws m)) (position (same_fact x) needs)

-- the reasons are clear, the choices are made of them, and these needs are planned, with the edges between them and their flaws
pub record IsJudged (inputs : Inputs) (reasons : List Reason) (choices : List (List ℕ × Choice)) (needs : List Fact) (edges : List (ℕ × ℕ)) (flaws : List (Option Flaw)) : Type 0 where
  pub clear : IsClear inputs reasons
  pub chosen : IsChoices inputs (facts_of reasons) (map choice_view choices)
  pub graph : IsPlannedGraph inputs (facts_of reasons) needs edges
  pub have : AreFlaws inputs (facts_of reasons) needs flaws
