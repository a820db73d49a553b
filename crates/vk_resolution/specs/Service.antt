-- What a plan owes its manifests, in a manifest's own words.
use Rattle.std.specs.Prelude.{◌≡◌, ℕ, true, false, List, [], Option, Some, None, Ok}
use Rattle.std.specs.List.{Contains}
use Rattle.vk_spec.specs.Versions.{Version, Ask, ask_of, IsOrder}
use Rattle.vk_spec.specs.Manifests.{Manifest, Dependency, core, default}
use Rattle.vk_spec.specs.Pages.{overlay}
use Rattle.vk_spec.specs.Catalogues.{ArePages}
use Rattle.vk_spec.specs.Conditions.{Condition}
use Rattle.vk_spec.specs.Settings.{Instance}
use Rattle.vk_resolution.specs.Least.{IsLeast}
use Rattle.vk_resolution.specs.Settings.{Who, root, inst, marks_of, triplet_of, instance_of, is_own, is_off, applicable_of, names_of, defaults_of}
use Rattle.vk_resolution.specs.Givens.{Pages, version_at, manifest_at, is_pinned}
use Rattle.vk_resolution.specs.Asking.{Fact, need}
use Rattle.vk_resolution.specs.Consequences.{Inputs, rules_of}
use Rattle.vk_resolution.specs.Choices.{chosen_of}
use Rattle.vk_resolution.specs.Planning.{IsPlanned}
use Rattle.vk_resolution.specs.Faults.{first_faults_of, second_faults_of}

-- the choice of a port that isn't pinned is at or above the minimum
pub record MeetsMinimum (inputs : Inputs) (facts : List Fact) (p : List ℕ) (a : Ask) : Type 0 where
  pub choice : Version
  pub chosen : chosen_of inputs facts p ≡ Some choice
  pub least : Version
  pub listed : version_at inputs.pages p a ≡ Some least
  pub meets : inputs.at_most least choice ≡ true

-- the same, where there is a minimum
abbrev pub MeetsMinimumOf : Inputs → List Fact → List ℕ → Option Ask → Type 0
MeetsMinimumOf inputs facts p None = Unit {0}
MeetsMinimumOf inputs facts p (Some a) = is_pinned inputs.setting inputs.pages p ≡ false → MeetsMinimum inputs facts p a

-- a dependency on another instance: it is planned with `core`, with `default` unless it is off, and with the features that the dependency asks
pub record ServesOther (inputs : Inputs) (facts planned : List Fact) (who : Who) (d : Dependency Condition) (j : Instance) : Type 0 where
  pub has_core : Contains planned (need (inst j) core)
  pub has_default : is_off inputs.setting j ≡ false → Contains planned (need (inst j) default)
  pub has_features : (g : List ℕ) → Contains (names_of (marks_of inputs.setting (triplet_of who)) d.features) g → Contains planned (need (inst j) g)
  pub minimum : MeetsMinimumOf inputs facts j.port d.minimum

-- a dependency on one's own instance: the features that it asks are planned; the root's asks for no minimum
abbrev pub MeetsOwnMinimum : Inputs → List Fact → Who → Option Ask → Type 0
MeetsOwnMinimum inputs facts (root triplet) minimum = Unit {0}
MeetsOwnMinimum inputs facts (inst i) minimum = MeetsMinimumOf inputs facts i.port minimum

-- a dependency on oneself is served
pub record ServesOwn (inputs : Inputs) (facts planned : List Fact) (who : Who) (d : Dependency Condition) : Type 0 where
  pub has_features : (g : List ℕ) → Contains (names_of (marks_of inputs.setting (triplet_of who)) d.features) g → Contains planned (need who g)
  pub minimum : MeetsOwnMinimum inputs facts who d.minimum

-- a feature of a manifest is served: each dependency that applies, and each default feature where the feature is `default`
pub record Serves (inputs : Inputs) (facts planned : List Fact) (who : Who) (f : List ℕ) (m : Manifest Condition) : Type 0 where
  pub others : (d : Dependency Condition) → Contains (applicable_of inputs.setting who f m) d → is_own inputs.setting who (instance_of inputs.setting who d) ≡ false → ServesOther inputs facts planned who d (instance_of inputs.setting who d)
  pub own : (d : Dependency Condition) → Contains (applicable_of inputs.setting who f m) d → is_own inputs.setting who (instance_of inputs.setting who d) ≡ true → ServesOwn inputs facts planned who d
  pub defaults : (g : List ℕ) → Contains (defaults_of inputs.setting who f m) g → Contains planned (need who g)

-- a planned feature of an instance has a chosen version with a manifest that is served
pub record IsServed (inputs : Inputs) (facts planned : List Fact) (i : Instance) (f : List ℕ) : Type 0 where
  pub choice : Version
  pub chosen : chosen_of inputs facts i.port ≡ Some choice
  pub manifest : Manifest Condition
  pub has_manifest : manifest_at inputs.pages i.port (ask_of choice) ≡ Some (Ok manifest)
  pub serves : Serves inputs facts planned (inst i) f manifest

-- the page of an overlay has the row of its own version
abbrev pub OverlaysHaveRows : Pages → Type 0
OverlaysHaveRows pages = (p : List ℕ) (v : Version) → (pages p).given ≡ Ok (overlay v) → version_at pages p (ask_of v) ≡ Some v

-- and so have all pages of a catalogue
abbrev pub PagesHaveRows : Type 0
PagesHaveRows = (pages : Pages) → ArePages pages → OverlaysHaveRows pages

-- each planned feature of the root and of each instance is served
pub record PlanServesAll (inputs : Inputs) (facts planned : List Fact) : Type 0 where
  pub of_root : (triplet f : List ℕ) → Contains planned (need (root triplet) f) → Serves inputs facts planned (root triplet) f inputs.setting.root
  pub of_instances : (i : Instance) (f : List ℕ) → Contains planned (need (inst i) f) → IsServed inputs facts planned i f

-- where the first two phases have no line, the plan serves its manifests
abbrev pub PlanServes : Type 0
PlanServes = (inputs : Inputs) → IsOrder inputs.at_most → OverlaysHaveRows inputs.pages → (facts planned : List Fact) → IsLeast (rules_of inputs) facts → first_faults_of inputs facts ≡ [] → second_faults_of inputs facts ≡ [] → IsPlanned inputs facts planned
    → PlanServesAll inputs facts planned
