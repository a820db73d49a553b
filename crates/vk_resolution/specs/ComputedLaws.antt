-- What is computed is what is defined.
use Rattle.std.specs.Prelude.{◌≡◌, ℕ, Some}
use Rattle.vk_spec.specs.Settings.{Setting}
use Rattle.vk_resolution.specs.Settings.{ListsOff}
use Rattle.vk_resolution.specs.Consequences.{Inputs}
use Rattle.vk_resolution.specs.Outcomes.{Printing, Outcome, IsOutcome}
use Rattle.vk_resolution.specs.Computed.{outcome_by, off_list_by}

-- an outcome that some number of rounds finds is the outcome
abbrev pub OutcomeIsDefined : Type 0
OutcomeIsDefined = (inputs : Inputs) (bytes : Printing) (n : ℕ) (o : Outcome) → outcome_by inputs bytes n ≡ Some o → IsOutcome inputs bytes o

-- a setting whose off list some number of rounds finds lists exactly the instances that are off
abbrev pub OffListIsDefined : Type 0
OffListIsDefined = (s : Setting) (n : ℕ) → off_list_by s n ≡ Some s.off → ListsOff s
