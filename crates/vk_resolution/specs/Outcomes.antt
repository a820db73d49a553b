-- The outcome: a plan, or the faults of the first phase that has any, and the reasons.
use Rattle.std.specs.Prelude.{◌≡◌, ◌≢◌, ℕ, List, [], ◌∷◌}
use Rattle.vk_resolution.specs.Keys.{in_order}
use Rattle.vk_resolution.specs.Asking.{Fact}
use Rattle.vk_resolution.specs.Consequences.{Inputs}
use Rattle.vk_resolution.specs.Reasons.{Reason, IsReasons, facts_of}
use Rattle.vk_resolution.specs.Planning.{IsPlanned, Item, IsPlan, IsCycle, targets_of, instances_of}
use Rattle.vk_resolution.specs.Faults.{Fault, has_cycle, first_faults_of, second_faults_of, third_faults_of}

-- what a fault prints
abbrev pub Printing : Type 0
Printing = Fault → List ℕ

-- the lines of a phase, sorted by their bytes
abbrev pub lines_of : Printing → List Fault → List Fault
lines_of bytes faults = in_order (λ f. bytes f ∷ []) faults

-- a later phase counts only where the earlier ones have no line
pub data IsRefusal (inputs : Inputs) (bytes : Printing) (facts : List Fact) (lines : List Fault) : Type 0 where
  by_first : first_faults_of inputs facts ≢ [] → lines ≡ lines_of bytes (first_faults_of inputs facts) → IsRefusal inputs bytes facts lines
  by_second : first_faults_of inputs facts ≡ [] → second_faults_of inputs facts ≢ [] → lines ≡ lines_of bytes (second_faults_of inputs facts) → IsRefusal inputs bytes facts lines
  by_third : (planned : List Fact) → first_faults_of inputs facts ≡ [] → second_faults_of inputs facts ≡ [] → IsPlanned inputs facts planned
      → third_faults_of inputs facts planned ≢ [] → lines ≡ lines_of bytes (third_faults_of inputs facts planned) → IsRefusal inputs bytes facts lines
  by_fourth : (planned : List Fact) → first_faults_of inputs facts ≡ [] → second_faults_of inputs facts ≡ [] → IsPlanned inputs facts planned → third_faults_of inputs facts planned ≡ []
      → (walk : List _) → IsCycle (targets_of inputs planned) (instances_of planned) walk → lines ≡ has_cycle walk ∷ [] → IsRefusal inputs bytes facts lines

-- no phase has a line, and the items are the plan
pub record IsAgreed (inputs : Inputs) (facts : List Fact) (items : List Item) : Type 0 where
  pub first : first_faults_of inputs facts ≡ []
  pub second : second_faults_of inputs facts ≡ []
  pub planned : List Fact
  pub is_planned : IsPlanned inputs facts planned
  pub third : third_faults_of inputs facts planned ≡ []
  pub plan : IsPlan inputs facts planned items

-- a plan or fault lines, with the reasons
pub data Outcome : Type 0 where
  planned : List Item → List Reason → Outcome
  refused : List Fault → List Reason → Outcome

-- what is planned or refused, with the reasons
abbrev pub IsOutcome : Inputs → Printing → Outcome → Type 0
IsOutcome inputs bytes (planned items reasons) = IsReasons inputs reasons × IsAgreed inputs (facts_of reasons) items
IsOutcome inputs bytes (refused lines reasons) = IsReasons inputs reasons × IsRefusal inputs bytes (facts_of reasons) lines
