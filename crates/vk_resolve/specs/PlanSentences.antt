-- The rules of the plan once more, a sentence each: what the chosen versions ask for, and nothing else.
use Rattle.std.specs.Prelude.{◌≡◌, ◌⊎◌, ℕ, List, Some, Ok}
use Rattle.std.specs.List.{Contains}
use Rattle.vk_spec.specs.Conditions.{Condition}
use Rattle.vk_spec.specs.Versions.{Version, Ask, ask_of}
use Rattle.vk_spec.specs.Manifests.{Manifest}
use Rattle.vk_spec.specs.Settings.{Instance}
use Rattle.vk_resolution.specs.Least.{FollowsFrom}
use Rattle.vk_resolution.specs.Settings.{Who, root, inst}
use Rattle.vk_resolution.specs.Givens.{manifest_at}
use Rattle.vk_resolution.specs.Asking.{Fact, need, visit, root_facts_of}
use Rattle.vk_resolution.specs.Consequences.{Inputs}
use Rattle.vk_resolution.specs.Choices.{chosen_of}
use Rattle.vk_resolution.specs.Planning.{planned_rules_of, IsPlanned}
use Rattle.vk_resolution.specs.Sentences.{Asks}

-- what is planned where these facts are, by the choices that all requirements give: a needed feature at the chosen version of its port, and what the manifest of a visit, or the root's, asks for
pub data IsPlannedBy (inputs : Inputs) (required facts : List Fact) : Fact → Type 0 where
  at_the_chosen : (i : Instance) (f : List ℕ) (v : Version) → Contains facts (need (inst i) f) → chosen_of inputs required i.port ≡ Some v → IsPlannedBy inputs required facts (visit i f (ask_of v))
  by_visit : (i : Instance) (f g : List ℕ) (a : Ask) (m : Manifest Condition) (who : Who) → Contains facts (visit i f a) → manifest_at inputs.pages i.port a ≡ Some (Ok m) → Asks inputs.setting (inst i) f m (need who g) → IsPlannedBy inputs required facts (need who g)
  by_root : (triplet f g : List ℕ) (who : Who) → Contains facts (need (root triplet) f) → Asks inputs.setting (root triplet) f inputs.setting.root (need who g) → IsPlannedBy inputs required facts (need who g)

-- what follows from a list by the rules of the plan is what these sentences plan
abbrev pub PlannedMeans : Type 0
PlannedMeans = (inputs : Inputs) (required facts : List Fact) (x : Fact) → (FollowsFrom (planned_rules_of inputs required) (Contains facts) x → IsPlannedBy inputs required facts x)
    × (IsPlannedBy inputs required facts x → FollowsFrom (planned_rules_of inputs required) (Contains facts) x)

-- a plan has nothing more: each planned fact is a root fact, or is planned by planned facts
abbrev pub PlanHasNoMore : Type 0
PlanHasNoMore = (inputs : Inputs) (required planned : List Fact) (x : Fact) → IsPlanned inputs required planned → Contains planned x → Contains (root_facts_of inputs.setting) x ⊎ IsPlannedBy inputs required planned x

-- and nothing less
abbrev pub PlanHasNoLess : Type 0
PlanHasNoLess = (inputs : Inputs) (required planned : List Fact) (x : Fact) → IsPlanned inputs required planned → Contains (root_facts_of inputs.setting) x ⊎ IsPlannedBy inputs required planned x → Contains planned x
