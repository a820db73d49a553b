-- What this planner's own inputs are, and what the laws say of them: its settings, the pages of its catalogues, its order on versions, its printed lines.
use Rattle.std.specs.Prelude.{◌≡◌, ◌≤◌, ◌⊎◌, List, length}
use Rattle.std.specs.List.{Contains}
use Rattle.vk_spec.specs.Versions.{IsOrder}
use Rattle.vk_spec.specs.Catalogues.{ArePages}
use Rattle.vk_spec.specs.Settings.{Setting}
use Rattle.vk_version.specs.Orders.{at_most}
use Rattle.vk_resolution.specs.Least.{IsClosed}
use Rattle.vk_resolution.specs.Givens.{Pages}
use Rattle.vk_resolution.specs.Asking.{Fact}
use Rattle.vk_resolution.specs.Consequences.{Inputs, rules_of}
use Rattle.vk_resolution.specs.Reasons.{Reason, facts_of}
use Rattle.vk_resolution.specs.Planning.{IsPlanned, Item}
use Rattle.vk_resolution.specs.Outcomes.{Outcome, planned, IsOutcome}
use Rattle.vk_resolution.specs.Lines.{fault_line, report_text}
use Rattle.vk_resolution.specs.Closures.{HasTooManyFacts}
use Rattle.vk_resolution.specs.Agreement.{reasons_in}
use Rattle.vk_resolution.specs.Service.{OverlaysHaveRows, PlanServesAll}
use Rattle.vk_resolution.specs.PlannedVersions.{IsPlannedVersion}

-- a setting, pages, and the order that decides between versions
abbrev pub inputs_of : Setting → Pages → Inputs
inputs_of setting pages = record { setting = setting; pages = pages; at_most = at_most }

-- the outcome of a setting and pages, its faults as they are printed
abbrev pub IsOutcomeOf : Setting → Pages → Outcome → Type 0
IsOutcomeOf setting pages o = IsOutcome (inputs_of setting pages) fault_line o

-- what the laws of resolution assume of inputs
pub record MeetsPremises (inputs : Inputs) : Type 0 where
  pub order : IsOrder inputs.at_most
  pub overlays : OverlaysHaveRows inputs.pages

-- where the pages are those of a catalogue, the inputs meet the premises
abbrev pub PremisesAreMet : Type 0
PremisesAreMet = (setting : Setting) (pages : Pages) → ArePages pages → MeetsPremises (inputs_of setting pages)

-- an outcome within the setting's number of facts, or too many facts
pub record HasOutcome (setting : Setting) (pages : Pages) : Type 0 where
  pub outcome : Outcome
  pub is_outcome : IsOutcomeOf setting pages outcome
  pub few : length (reasons_in outcome) ≤ setting.max_facts

-- where any list of facts is closed, there is such an outcome, or there are too many facts
abbrev pub OutcomeOrTooMany : Type 0
OutcomeOrTooMany = (setting : Setting) (pages : Pages) → ArePages pages → (closed : List Fact) → IsClosed (rules_of (inputs_of setting pages)) closed
    → HasOutcome setting pages ⊎ HasTooManyFacts (inputs_of setting pages)

-- and never both
abbrev pub OutcomeIsNotTooMany : Type 0
OutcomeIsNotTooMany = (setting : Setting) (pages : Pages) → HasOutcome setting pages → HasTooManyFacts (inputs_of setting pages) → ⊥

-- two outcomes of one setting and pages are one, and print one report
pub record AreAlike (one other : Outcome) : Type 0 where
  pub outcome : one ≡ other
  pub report : report_text one ≡ report_text other

abbrev pub OneOutcomeOneReport : Type 0
OneOutcomeOneReport = (setting : Setting) (pages : Pages) (one other : Outcome) → IsOutcomeOf setting pages one → IsOutcomeOf setting pages other → AreAlike one other

-- what a plan gives: each item has its port's version, and all that the planned manifests ask is planned
pub record KeepsPromises (setting : Setting) (pages : Pages) (items : List Item) (reasons : List Reason) : Type 0 where
  pub versions : (item : Item) → Contains items item → IsPlannedVersion (inputs_of setting pages) (facts_of reasons) item.instance.port item.version
  pub chosen : List Fact
  pub is_planned : IsPlanned (inputs_of setting pages) (facts_of reasons) chosen
  pub serves : PlanServesAll (inputs_of setting pages) (facts_of reasons) chosen

abbrev pub PlansKeepPromises : Type 0
PlansKeepPromises = (setting : Setting) (pages : Pages) → ArePages pages → (items : List Item) (reasons : List Reason) → IsOutcomeOf setting pages (planned items reasons) → KeepsPromises setting pages items reasons
