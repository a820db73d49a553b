-- What is answered in place of choices.
use Rattle.std.specs.Prelude.{◌≡◌, ◌≢◌, List, [], Result, IfErr, IfSome}
use Rattle.vk_base.specs.Stops.{stop_fault_in}
use Rattle.vk_base.specs.declared.stops.Stop.{Stop}
use Rattle.vk_resolution.specs.Asking.{Fact}
use Rattle.vk_resolution.specs.Consequences.{Inputs}
use Rattle.vk_resolution.specs.Faults as plain
use Rattle.vk_resolution.specs.Faults.{second_faults_of}
use Rattle.vk_resolution.specs.Lines.{fault_line}
use Rattle.vk_resolution.specs.Outcomes.{lines_of}
use Rattle.vk_model.specs.FaultViews.{faults_view}
use Rattle.vk_choices.specs.declared.chosen.ChooseFault.{ChooseFault}
use Rattle.vk_choices.specs.declared.chosen.ChooseFault.TheVariants.{Conflicts}

-- the lines of the second phase, of which there are some
pub record AreConflicts (inputs : Inputs) (facts : List Fact) (lines : List plain.Fault) : Type 0 where
  pub some : second_faults_of inputs facts ≢ []
  pub told : lines ≡ lines_of fault_line (second_faults_of inputs facts)

-- the lines that a fault tells
abbrev pub conflicts_in : ChooseFault → List plain.Fault
conflicts_in (Conflicts faults) = faults_view faults

-- where the answer is a fault, this holds of its lines
abbrev pub OnConflicts : {A : Type 0} → Result A (Stop ChooseFault) → (List plain.Fault → Type 0) → Type 0
OnConflicts result P = IfErr result (λ e. IfSome (stop_fault_in e) (λ fault. P (conflicts_in fault)))
