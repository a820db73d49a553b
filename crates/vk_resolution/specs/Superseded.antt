-- Superseded versions count, and don't stay: what the two worked projects show.
use Rattle.std.specs.Prelude.{◌≡◌, List, Some}
use Rattle.std.specs.List.{Contains}
use Rattle.vk_spec.specs.Manifests.{core}
use Rattle.vk_resolution.specs.Least.{IsLeastInOrder}
use Rattle.vk_resolution.specs.Settings.{inst}
use Rattle.vk_resolution.specs.Asking.{Fact, need, floor, visit, fact_key}
use Rattle.vk_resolution.specs.Consequences.{rules_of}
use Rattle.vk_resolution.specs.Choices.{chosen_of}
use Rattle.vk_resolution.specs.Planning.{IsPlanned, instances_of}
use Rattle.vk_resolution.specs.Examples.{version, ask, x64}
use Rattle.vk_resolution.specs.Projects.{a, b, three, one_dot, two_dot, superseded_minimum, superseded_reach}

-- a is chosen at 2.0, nothing but its superseded version asks for b at 3, and b is chosen at 3
pub record SupersededCounts (facts : List Fact) : Type 0 where
  pub superseded : chosen_of superseded_minimum facts a ≡ Some (version two_dot)
  pub only : (x : Fact) → Contains facts x → Contains ((rules_of superseded_minimum).alone x) (floor b (ask three)) → x ≡ visit (x64 a) core (ask one_dot)
  pub counts : chosen_of superseded_minimum facts b ≡ Some (version three)

-- in the project of a superseded minimum
abbrev pub MinimumCounts : Type 0
MinimumCounts = (facts : List Fact) → IsLeastInOrder (rules_of superseded_minimum) fact_key facts → SupersededCounts facts

-- b is needed, but not planned
pub record SupersededGoes (facts planned : List Fact) : Type 0 where
  pub needed : Contains facts (need (inst (x64 b)) core)
  pub gone : Contains (instances_of planned) (x64 b) → ⊥

-- in the project of a superseded reach
abbrev pub ReachGoes : Type 0
ReachGoes = (facts planned : List Fact) → IsLeastInOrder (rules_of superseded_reach) fact_key facts → IsPlanned superseded_reach facts planned → SupersededGoes facts planned
