-- The closure of a project: its reasons with the first phase's lines, and when there are too many facts for one.
use Rattle.std.specs.Prelude.{◌≡◌, ◌≢◌, ◌≤◌, ◌<◌, ◌+◌, ◌⊎◌, List, [], length}
use Rattle.vk_resolution.specs.Least.{IsForced, IsClosed}
use Rattle.vk_resolution.specs.Asking.{Fact}
use Rattle.vk_resolution.specs.Consequences.{Inputs, rules_of}
use Rattle.vk_resolution.specs.Reasons.{Reason, IsReasons, facts_of}
use Rattle.vk_resolution.specs.Faults.{Fault, first_faults_of}
use Rattle.vk_resolution.specs.Outcomes.{Printing, lines_of, refused, IsOutcome}

pub record Closure : Type 0 where
  pub reasons : List Reason
  pub faults : List Fault

-- the least list in its order, each fact with its cause, and the lines of the first phase
pub record IsClosure (inputs : Inputs) (bytes : Printing) (closure : Closure) : Type 0 where
  pub reasons : IsReasons inputs closure.reasons
  pub faults : closure.faults ≡ lines_of bytes (first_faults_of inputs (facts_of closure.reasons))

-- one fact more than the setting allows, each in every closed list
pub record HasTooManyFacts (inputs : Inputs) : Type 0 where
  pub facts : List Fact
  pub forced : IsForced (rules_of inputs) facts
  pub more : length facts ≡ inputs.setting.max_facts + 1

-- a closure of no more facts than the setting allows
pub record HasClosure (inputs : Inputs) (bytes : Printing) : Type 0 where
  pub closure : Closure
  pub is_closure : IsClosure inputs bytes closure
  pub few : length closure.reasons ≤ inputs.setting.max_facts

-- a closure with lines is the outcome: a refusal
abbrev pub ClosureRefuses : Type 0
ClosureRefuses = (inputs : Inputs) (bytes : Printing) (closure : Closure) → IsClosure inputs bytes closure → closure.faults ≢ [] → IsOutcome inputs bytes (refused closure.faults closure.reasons)

-- there is one closure
abbrev pub ClosureIsOne : Type 0
ClosureIsOne = (inputs : Inputs) (bytes : Printing) (one other : Closure) → IsClosure inputs bytes one → IsClosure inputs bytes other → one ≡ other

-- where a list is closed, there is a closure that the setting allows, or there are too many facts
abbrev pub ClosureOrTooMany : Type 0
ClosureOrTooMany = (inputs : Inputs) (bytes : Printing) (closed : List Fact) → IsClosed (rules_of inputs) closed → HasClosure inputs bytes ⊎ HasTooManyFacts inputs

-- and never both; where there are too many facts, the reasons are more than the setting allows
abbrev pub TooManyIsNoClosure : Type 0
TooManyIsNoClosure = (inputs : Inputs) → HasTooManyFacts inputs → (reasons : List Reason) → IsReasons inputs reasons → inputs.setting.max_facts < length reasons
