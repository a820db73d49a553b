-- What is needed of the root, what it names, and that there is one off list: laws on the root of a setting.
use Rattle.std.specs.Prelude.{◌≡◌, ◌↔◌, ℕ, true, List}
use Rattle.std.specs.List.{Contains}
use Rattle.vk_spec.specs.Conditions.{Condition}
use Rattle.vk_spec.specs.Manifests.{Dependency, core, default}
use Rattle.vk_spec.specs.Settings.{Setting, Instance}
use Rattle.vk_resolution.specs.Least.{IsLeast}
use Rattle.vk_resolution.specs.Settings.{root, instance_of, IsAskedOfRoot, IsNamedByRoot, ListsOff}
use Rattle.vk_resolution.specs.Asking.{Fact, need, root_facts_of}
use Rattle.vk_resolution.specs.Consequences.{Inputs, rules_of}
use Rattle.vk_resolution.specs.Sentences.{Depends, IsOnAnother}

-- what all else follows from: the root's need of `core`, of each feature of the words, and of `default` unless the words switch it off
pub data IsFirstNeed (s : Setting) : Fact → Type 0 where
  of_core : IsFirstNeed s (need (root s.target.name) core)
  of_word : (f : List ℕ) → Contains s.features f → IsFirstNeed s (need (root s.target.name) f)
  of_default : s.defaults ≡ true → IsFirstNeed s (need (root s.target.name) default)

-- the root facts are these
abbrev pub RootFactsMean : Type 0
RootFactsMean = (s : Setting) (x : Fact) → Contains (root_facts_of s) x ↔ IsFirstNeed s x

-- the features of the root that the requirements need are those that are asked of it
abbrev pub RootFeaturesAreNeeded : Type 0
RootFeaturesAreNeeded = (inputs : Inputs) (facts : List Fact) (f : List ℕ) → IsLeast (rules_of inputs) facts
    → Contains facts (need (root inputs.setting.target.name) f) ↔ IsAskedOfRoot inputs.setting f

-- an asked feature of the root depends on another instance, and that is this one
pub record DependsOnAnother (s : Setting) (d : Dependency Condition) (j : Instance) : Type 0 where
  pub feature : List ℕ
  pub asked : IsAskedOfRoot s feature
  pub depends : Depends s (root s.target.name) feature s.root d
  pub another : IsOnAnother s (root s.target.name) d
  pub is : instance_of s (root s.target.name) d ≡ j

-- the root names an instance where this is so
abbrev pub NamedMeans : Type 0
NamedMeans = (s : Setting) (d : Dependency Condition) (j : Instance) → IsNamedByRoot s d j ↔ DependsOnAnother s d j

-- the setting with another off list
abbrev pub with_off : Setting → List Instance → Setting
with_off s off = record { root = s.root; target = s.target; host = s.host; features = s.features; defaults = s.defaults; off = off; max_facts = s.max_facts }

-- two off lists of one setting have the same members
abbrev pub OffListIsOne : Type 0
OffListIsOne = (s : Setting) (one other : List Instance) → ListsOff (with_off s one) → ListsOff (with_off s other) → (j : Instance) → Contains one j ↔ Contains other j
