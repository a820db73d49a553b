-- The choices of a project: a version for each port that has a floor.
use Rattle.std.specs.Prelude.{◌≡◌, ◌≢◌, ◌⊎◌, ℕ, List, [], ◌∷◌, map, flat_map, Some}
use Rattle.std.specs.List.{Contains}
use Rattle.vk_spec.specs.Versions.{Version, Ask, IsOrder, ask_of}
use Rattle.vk_spec.specs.Settings.{Instance}
use Rattle.vk_resolution.specs.Keys.{IsListing, in_order}
use Rattle.vk_resolution.specs.Least.{IsLeast}
use Rattle.vk_resolution.specs.Asking.{Fact, floor}
use Rattle.vk_resolution.specs.Consequences.{Inputs, rules_of}
use Rattle.vk_resolution.specs.Choices.{chosen_of}
use Rattle.vk_resolution.specs.Reasons.{line_of}
use Rattle.vk_resolution.specs.Planning.{Item, IsItem}
use Rattle.vk_resolution.specs.Faults.{ports_in, first_faults_of, second_faults_of}

-- a port, its chosen version, and the line of the floor that it is
pub record Choice : Type 0 where
  pub port : List ℕ
  pub version : Version
  pub line : ℕ

-- the ports that have a floor, in order
abbrev pub floored_ports_of : List Fact → List (List ℕ)
floored_ports_of facts = in_order (λ p. p ∷ []) (flat_map ports_in facts)

-- the version is the port's choice, and stands on that line as a floor
pub record IsChoice (inputs : Inputs) (facts : List Fact) (choice : Choice) : Type 0 where
  pub chosen : chosen_of inputs facts choice.port ≡ Some choice.version
  pub floor : line_of facts (floor choice.port (ask_of choice.version)) ≡ Some choice.line

-- one choice for each port that has a floor, in the order of ports
pub record IsChoices (inputs : Inputs) (facts : List Fact) (choices : List Choice) : Type 0 where
  pub ports : map (λ c. c.port) choices ≡ floored_ports_of facts
  pub each : (c : Choice) → Contains choices c → IsChoice inputs facts c

-- a port that has a floor
abbrev pub HasFloor : List Fact → List ℕ → Type 0
HasFloor facts p = (a : Ask) × Contains facts (floor p a)

-- the ports of the choices are those that have a floor, each once and in order
abbrev pub ChoicesListPorts : Type 0
ChoicesListPorts = (inputs : Inputs) (facts : List Fact) (choices : List Choice) → IsChoices inputs facts choices → IsListing (λ p. p ∷ []) (HasFloor facts) (map (λ c. c.port) choices)

-- the choice that an item tells
abbrev pub choice_of : Item → Choice
choice_of item = record { port = item.instance.port; version = item.version; line = item.line }

-- each item of a plan or of a planned set tells its port's choice
abbrev pub ItemsHaveChoices : Type 0
ItemsHaveChoices = (inputs : Inputs) (facts planned : List Fact) (order : List Instance) (item : Item) → IsItem inputs facts planned order item → (choices : List Choice) → IsChoices inputs facts choices → Contains choices (choice_of item)

-- there is one list of choices
abbrev pub ChoicesAreOne : Type 0
ChoicesAreOne = (inputs : Inputs) (facts : List Fact) (one other : List Choice) → IsChoices inputs facts one → IsChoices inputs facts other → one ≡ other

-- where the first phase has no line, either each port with a floor has a choice, or the second phase has a line
abbrev pub ChoicesOrConflicts : Type 0
ChoicesOrConflicts = (inputs : Inputs) → IsOrder inputs.at_most → (facts : List Fact) → IsLeast (rules_of inputs) facts → first_faults_of inputs facts ≡ []
    → ((choices : List Choice) × IsChoices inputs facts choices) ⊎ (second_faults_of inputs facts ≢ [])

-- and never both
abbrev pub ChoicesHaveNoConflict : Type 0
ChoicesHaveNoConflict = (inputs : Inputs) (facts : List Fact) (choices : List Choice) → IsChoices inputs facts choices → second_faults_of inputs facts ≡ []
