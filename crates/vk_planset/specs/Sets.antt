-- What the chosen versions come to: a set of items, or the lines of the third phase.
use Rattle.std.specs.Prelude.{◌≡◌, ◌≢◌, List, [], Result, IfErr, IfSome}
use Rattle.vk_base.specs.Stops.{stop_fault_in}
use Rattle.vk_base.specs.declared.stops.Stop.{Stop}
use Rattle.vk_resolution.specs.Asking.{Fact}
use Rattle.vk_resolution.specs.Consequences.{Inputs}
use Rattle.vk_resolution.specs.Faults as plain
use Rattle.vk_resolution.specs.Faults.{third_faults_of}
use Rattle.vk_resolution.specs.Lines.{fault_line}
use Rattle.vk_resolution.specs.Outcomes.{lines_of}
use Rattle.vk_resolution.specs.Planning.{IsPlanned, Item}
use Rattle.vk_resolution.specs.PlannedSets.{IsPlanSet}
use Rattle.vk_model.specs.FaultViews.{faults_view}
use Rattle.vk_planset.specs.declared.sets.PlanSetFault.{PlanSetFault}
use Rattle.vk_planset.specs.declared.sets.PlanSetFault.TheVariants.{Faults}

-- the items are the planned set, and the third phase has no line
pub record IsSet (inputs : Inputs) (facts : List Fact) (items : List Item) : Type 0 where
  pub planned : List Fact
  pub is_planned : IsPlanned inputs facts planned
  pub clear : third_faults_of inputs facts planned ≡ []
  pub set : IsPlanSet inputs facts planned items

-- the lines of the third phase, of which there are some
pub record AreThird (inputs : Inputs) (facts : List Fact) (lines : List plain.Fault) : Type 0 where
  pub planned : List Fact
  pub is_planned : IsPlanned inputs facts planned
  pub some : third_faults_of inputs facts planned ≢ []
  pub told : lines ≡ lines_of fault_line (third_faults_of inputs facts planned)

-- the lines that a fault tells
abbrev pub lines_in : PlanSetFault → List plain.Fault
lines_in (Faults faults) = faults_view faults

-- where the answer is a fault, this holds of its lines
abbrev pub OnFaults : {A : Type 0} → Result A (Stop PlanSetFault) → (List plain.Fault → Type 0) → Type 0
OnFaults result P = IfErr result (λ e. IfSome (stop_fault_in e) (λ fault. P (lines_in fault)))
