-- What an edge of the plan means.
use Rattle.std.specs.Prelude.{◌≡◌, ◌≢◌, ◌↔◌, ℕ, List, Some, Ok}
use Rattle.std.specs.List.{Contains}
use Rattle.vk_spec.specs.Versions.{Ask}
use Rattle.vk_spec.specs.Manifests.{Manifest, Dependency}
use Rattle.vk_spec.specs.Conditions.{Condition}
use Rattle.vk_spec.specs.Settings.{Instance}
use Rattle.vk_resolution.specs.Settings.{inst, instance_of}
use Rattle.vk_resolution.specs.Givens.{manifest_at}
use Rattle.vk_resolution.specs.Asking.{Fact, visit}
use Rattle.vk_resolution.specs.Consequences.{Inputs}
use Rattle.vk_resolution.specs.Planning.{targets_of}
use Rattle.vk_resolution.specs.Sentences.{Depends}

-- one instance depends on another: a planned visit of the one has a manifest, in which the visited feature has a dependency that applies and is on the other
pub record IsEdge (inputs : Inputs) (planned : List Fact) (i j : Instance) : Type 0 where
  pub f : List ℕ
  pub a : Ask
  pub visited : Contains planned (visit i f a)
  pub m : Manifest Condition
  pub manifest : manifest_at inputs.pages i.port a ≡ Some (Ok m)
  pub d : Dependency Condition
  pub depends : Depends inputs.setting (inst i) f m d
  pub leads : instance_of inputs.setting (inst i) d ≡ j
  pub other : j ≢ i

-- the edges of the plan are those
abbrev pub EdgesMean : Type 0
EdgesMean = (inputs : Inputs) (planned : List Fact) (i j : Instance) → Contains (targets_of inputs planned i) j ↔ IsEdge inputs planned i j
