-- Laws of the definitions, over all settings, pages and orders.
use Rattle.std.specs.Prelude.{◌≡◌, ◌≢◌, ◌<◌, ◌≤◌, ◌↔◌, ℕ, true, false, List, [], ◌∷◌, map, length, Some, Ok}
use Rattle.std.specs.List.{Contains}
use Rattle.vk_spec.specs.Lists.{NoRepeats, IsWithin}
use Rattle.vk_spec.specs.Versions.{Version, Ask, ask_of, IsOrder}
use Rattle.vk_spec.specs.Pages.{Given, given_ask}
use Rattle.vk_spec.specs.Settings.{Instance}
use Rattle.vk_resolution.specs.Least.{IsClosed, IsLeast}
use Rattle.vk_resolution.specs.Settings.{inst}
use Rattle.vk_resolution.specs.Givens.{version_at, is_pinned}
use Rattle.vk_resolution.specs.Asking.{Fact, need, floor, visit}
use Rattle.vk_resolution.specs.Consequences.{Inputs, rules_of, Cause, by_root, by_baseline, by_override, by_overlay, by_minimum, by_one, by_two}
use Rattle.vk_resolution.specs.Choices.{floors_of, chosen_of, is_top, IsInConflict}
use Rattle.vk_resolution.specs.Reasons.{Reason, facts_of, line_of, fact_at, with_facts, cited_by, IsReasons, IsDerivation, LeadsToRoots}
use Rattle.vk_resolution.specs.Planning.{IsPlanned, planned_rules_of}
use Rattle.vk_resolution.specs.Faults.{conflicts, first_faults_of, second_faults_of}

-- the reasons are a derivation: each is a root fact, or follows by its cause from the lines that it cites, which stand before it
abbrev pub ReasonsAreDerived : Type 0
ReasonsAreDerived = (inputs : Inputs) (reasons : List Reason) → IsReasons inputs reasons → IsDerivation inputs [] reasons

-- from each line of a derivation, every chain of cited lines has falling numbers, and ends in a root fact
abbrev pub DerivationsLeadToRoots : Type 0
DerivationsLeadToRoots = (inputs : Inputs) (reasons : List Reason) → IsDerivation inputs [] reasons → (n : ℕ) → 0 < n → n ≤ length reasons → LeadsToRoots inputs reasons n

-- a derivation that is closed and has no fact twice is the least list
abbrev pub CertificateIsLeast : Type 0
CertificateIsLeast = (inputs : Inputs) (reasons : List Reason) → IsClosed (rules_of inputs) (facts_of reasons) → NoRepeats (facts_of reasons) → IsDerivation inputs [] reasons → IsLeast (rules_of inputs) (facts_of reasons)

-- in a list without repeats, the line of a fact is the one on which it stands
abbrev pub LinesAreNumbers : Type 0
LinesAreNumbers = (facts : List Fact) → NoRepeats facts → (x : Fact) (n : ℕ) → line_of facts x ≡ Some n ↔ fact_at facts n ≡ Some x

-- a version is at or above every floor of the port among the facts that the table has
abbrev pub IsAboveFloors : Inputs → List Fact → List ℕ → Version → Type 0
IsAboveFloors inputs facts p w = (a : Ask) (v : Version) → Contains facts (floor p a) → version_at inputs.pages p a ≡ Some v → inputs.at_most v w ≡ true

-- the choice is the least version that any closed list allows
abbrev pub ChoiceIsLeast : Type 0
ChoiceIsLeast = (inputs : Inputs) (facts : List Fact) → IsLeast (rules_of inputs) facts → (p : List ℕ) → is_pinned inputs.setting inputs.pages p ≡ false → (c : Version) → chosen_of inputs facts p ≡ Some c
    → (other : List Fact) → IsClosed (rules_of inputs) other → (w : Version) → IsAboveFloors inputs other p w → inputs.at_most c w ≡ true

-- the choice is at or above every floor
abbrev pub ChoiceIsAboveFloors : Type 0
ChoiceIsAboveFloors = (inputs : Inputs) (facts : List Fact) (p : List ℕ) → is_pinned inputs.setting inputs.pages p ≡ false → (c : Version) → chosen_of inputs facts p ≡ Some c → IsAboveFloors inputs facts p c

-- where no fault of the first phase stands, the table has every floor of a needed port, the given version's among them
pub record HasAllFloors (inputs : Inputs) (facts : List Fact) (p : List ℕ) : Type 0 where
  pub given : Given
  pub found : (inputs.pages p).given ≡ Ok given
  pub floor_given : Contains facts (floor p (given_ask given))
  pub every : (a : Ask) → is_pinned inputs.setting inputs.pages p ≡ false → Contains facts (floor p a) → (v : Version) × (version_at inputs.pages p a ≡ Some v)

-- where the first phase has no line, each needed port has all its floors
abbrev pub TableHasFloors : Type 0
TableHasFloors = (inputs : Inputs) (facts : List Fact) → IsLeast (rules_of inputs) facts → first_faults_of inputs facts ≡ [] → (i : Instance) (f : List ℕ) → Contains facts (need (inst i) f) → HasAllFloors inputs facts i.port

-- a port that isn't pinned and has floors has a choice, or a conflict line of two floors that no other is above
pub record HasConflictLine (inputs : Inputs) (facts : List Fact) (p : List ℕ) : Type 0 where
  pub one : Version
  pub one_line : ℕ
  pub other : Version
  pub other_line : ℕ
  pub differ : one ≢ other
  pub one_floor : Contains (floors_of inputs facts p) one
  pub other_floor : Contains (floors_of inputs facts p) other
  pub one_top : is_top inputs (floors_of inputs facts p) one ≡ true
  pub other_top : is_top inputs (floors_of inputs facts p) other ≡ true
  pub line : Contains (second_faults_of inputs facts) (conflicts p one one_line other other_line)

-- a port in conflict has a conflict line
abbrev pub ChoiceOrConflict : Type 0
ChoiceOrConflict = (inputs : Inputs) → IsOrder inputs.at_most → (facts : List Fact) (p : List ℕ) → IsInConflict inputs facts p → HasConflictLine inputs facts p

-- Where no fault of the first phase stands, the least list is closed under the rules of the plan.
-- Without that it need not be: where the baseline of a port names a version that its table lacks, and a minimum asks for one that the table has, the port has a choice, but no version of it is visited, and so the visit that the plan asks for isn't in the list.
pub record HasPlanned (inputs : Inputs) (facts : List Fact) : Type 0 where
  pub closed : IsClosed (planned_rules_of inputs facts) facts
  pub planned : List Fact
  pub is_planned : IsPlanned inputs facts planned

-- where the first phase has no line, there are planned facts
abbrev pub PlanExists : Type 0
PlanExists = (inputs : Inputs) → IsOrder inputs.at_most → (facts : List Fact) → IsLeast (rules_of inputs) facts → first_faults_of inputs facts ≡ [] → HasPlanned inputs facts

-- the planned facts are among the facts, and each planned need of a port that has a choice has its visit
pub record StaysWithin (inputs : Inputs) (facts planned : List Fact) : Type 0 where
  pub within : IsWithin planned facts
  pub visits : (i : Instance) (f : List ℕ) (c : Version) → Contains planned (need (inst i) f) → chosen_of inputs facts i.port ≡ Some c → Contains planned (visit i f (ask_of c))

-- and all of them are among the facts
abbrev pub PlanStaysWithin : Type 0
PlanStaysWithin = (inputs : Inputs) → IsOrder inputs.at_most → (facts planned : List Fact) → IsLeast (rules_of inputs) facts → first_faults_of inputs facts ≡ [] → IsPlanned inputs facts planned → StaysWithin inputs facts planned

-- a cause cites these, in order: a visit's cause two, a root fact's none, any other one
pub data Cites {C : Type 0} : Cause C → List C → Type 0 where
  none : Cites by_root []
  one_of_baseline : (x : C) → Cites (by_baseline x) (x ∷ [])
  one_of_override : (x : C) → Cites (by_override x) (x ∷ [])
  one_of_overlay : (x : C) → Cites (by_overlay x) (x ∷ [])
  one_of_minimum : (x : C) → Cites (by_minimum x) (x ∷ [])
  one : (x : C) → Cites (by_one x) (x ∷ [])
  two : (x y : C) → Cites (by_two x y) (x ∷ y ∷ [])

-- where a cause is found with facts in place of lines, these are the facts on the lines that it cites, in order
pub record CitesFactsOf (facts : List Fact) (cause : Cause ℕ) (cited : Cause Fact) : Type 0 where
  pub lines : Cites cause (cited_by cause)
  pub those : List Fact
  pub cites : Cites cited those
  pub stand : map (fact_at facts) (cited_by cause) ≡ map Some those

-- the lines that are cited are those
abbrev pub CitedLinesAreThose : Type 0
CitedLinesAreThose = (facts : List Fact) (cause : Cause ℕ) (cited : Cause Fact) → with_facts facts cause ≡ Some cited → CitesFactsOf facts cause cited
