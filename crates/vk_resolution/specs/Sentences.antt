-- The rules once more, a sentence each: what a manifest asks, what may be visited, what follows from a list.
use Rattle.vk_spec.specs.Conditions.{holds, Condition}
use Rattle.std.specs.Prelude.{◌≡◌, ◌≢◌, ℕ, true, false, List, Some, Ok}
use Rattle.std.specs.List.{Contains}
use Rattle.vk_spec.specs.Versions.{Ask, ask_of}
use Rattle.vk_spec.specs.Manifests.{Manifest, Dependency, FeatureUse, Feature, core, default}
use Rattle.vk_spec.specs.Pages.{Given, overlay, override, baseline, Row, given_ask}
use Rattle.vk_spec.specs.Settings.{Setting, Instance}
use Rattle.vk_resolution.specs.Least.{FollowsFrom}
use Rattle.vk_resolution.specs.Settings.{Who, root, inst, marks_of, triplet_of, instance_of, feature_of}
use Rattle.vk_resolution.specs.Givens.{row_at, manifest_at, is_pinned}
use Rattle.vk_resolution.specs.Asking.{Fact, need, floor, visit, asked_of}
use Rattle.vk_resolution.specs.Consequences.{Inputs, rules_of}

-- the condition is true where the one that depends is
abbrev pub IsTrueFor : Setting → Who → Condition → Type 0
IsTrueFor s who condition = holds condition (marks_of s (triplet_of who)) ≡ true

-- a feature of the manifest has the dependency, and it applies
pub data Depends (s : Setting) (who : Who) (f : List ℕ) (m : Manifest Condition) (d : Dependency Condition) : Type 0 where
  by_core : f ≡ core → Contains m.dependencies d → IsTrueFor s who d.platform → Depends s who f m d
  by_feature : (g : Feature Condition) → f ≢ core → f ≢ default → feature_of m f ≡ Some g → Contains g.dependencies d → IsTrueFor s who d.platform → Depends s who f m d

-- the dependency is on the one that depends: its own port and triplet; the root's where the root has that name, for the target
pub data IsOnItself (s : Setting) (who : Who) (d : Dependency Condition) : Type 0 where
  is_instance : (i : Instance) → who ≡ inst i → instance_of s who d ≡ i → IsOnItself s who d
  is_the_root : (triplet : List ℕ) → who ≡ root triplet → s.root.name ≡ Some d.name → (instance_of s who d).triplet ≡ triplet → IsOnItself s who d

-- or it is on another
abbrev pub IsOnAnother : Setting → Who → Dependency Condition → Type 0
IsOnAnother s who d = IsOnItself s who d → ⊥

-- what a feature of a manifest asks for
pub data Asks (s : Setting) (who : Who) (f : List ℕ) (m : Manifest Condition) : Fact → Type 0 where
  a_core : (d : Dependency Condition) → Depends s who f m d → IsOnAnother s who d → Asks s who f m (need (inst (instance_of s who d)) core)
  a_default : (d : Dependency Condition) → Depends s who f m d → IsOnAnother s who d → (Contains s.off (instance_of s who d) → ⊥) → Asks s who f m (need (inst (instance_of s who d)) default)
  a_feature : (d : Dependency Condition) (u : FeatureUse Condition) → Depends s who f m d → IsOnAnother s who d → Contains d.features u → IsTrueFor s who u.platform → Asks s who f m (need (inst (instance_of s who d)) u.name)
  a_minimum : (d : Dependency Condition) (a : Ask) → Depends s who f m d → IsOnAnother s who d → d.minimum ≡ Some a → Asks s who f m (floor d.name a)
  own_feature : (d : Dependency Condition) (u : FeatureUse Condition) → Depends s who f m d → IsOnItself s who d → Contains d.features u → IsTrueFor s who u.platform → Asks s who f m (need who u.name)
  own_minimum : (d : Dependency Condition) (a : Ask) (i : Instance) → Depends s who f m d → IsOnItself s who d → who ≡ inst i → d.minimum ≡ Some a → Asks s who f m (floor i.port a)
  a_default_feature : (u : FeatureUse Condition) → f ≡ default → Contains m.default_features u → IsTrueFor s who u.platform → Asks s who f m (need who u.name)

-- the version of a floor may be visited: of an overlay its own, of an override its own if the table has it, else one that isn't below the given version
pub data MayVisit (inputs : Inputs) (p : List ℕ) (a : Ask) : Type 0 where
  of_overlay : (v : _) → (inputs.pages p).given ≡ Ok (overlay v) → a ≡ ask_of v → MayVisit inputs p a
  of_override : (r : Row Condition) → (inputs.pages p).given ≡ Ok (override a) → row_at inputs.pages p a ≡ Some r → MayVisit inputs p a
  of_baseline : (b : Ask) (g r : Row Condition) → (inputs.pages p).given ≡ Ok (baseline b) → row_at inputs.pages p b ≡ Some g → row_at inputs.pages p a ≡ Some r
      → (inputs.at_most r.version g.version ≡ true → r.version ≡ g.version) → MayVisit inputs p a

-- it is no floor of a pinned port
abbrev pub IsKept : Inputs → Fact → Type 0
IsKept inputs x = (p : List ℕ) (a : Ask) → x ≡ floor p a → is_pinned inputs.setting inputs.pages p ≡ false

-- what is required, where these facts are
pub data Requires (inputs : Inputs) (facts : List Fact) : Fact → Type 0 where
  given_floor : (i : Instance) (f : List ℕ) (g : Given) → Contains facts (need (inst i) f) → (inputs.pages i.port).given ≡ Ok g → Requires inputs facts (floor i.port (given_ask g))
  a_visit : (i : Instance) (f : List ℕ) (a : Ask) → Contains facts (need (inst i) f) → Contains facts (floor i.port a) → MayVisit inputs i.port a → Requires inputs facts (visit i f a)
  asked_by_visit : (i : Instance) (f : List ℕ) (a : Ask) (m : Manifest Condition) (x : Fact) → Contains facts (visit i f a) → manifest_at inputs.pages i.port a ≡ Some (Ok m) → Asks inputs.setting (inst i) f m x → IsKept inputs x → Requires inputs facts x
  asked_by_root : (triplet f : List ℕ) (x : Fact) → Contains facts (need (root triplet) f) → Asks inputs.setting (root triplet) f inputs.setting.root x → IsKept inputs x → Requires inputs facts x

-- the listed rules mean these sentences
abbrev pub AskedMeans : Type 0
AskedMeans = (s : Setting) (who : Who) (f : List ℕ) (m : Manifest Condition) (x : Fact) → (Contains (asked_of s who f m) x → Asks s who f m x) × (Asks s who f m x → Contains (asked_of s who f m) x)

-- what follows from a list by the rules is what the sentences require
abbrev pub RulesMean : Type 0
RulesMean = (inputs : Inputs) (facts : List Fact) (x : Fact) → (FollowsFrom (rules_of inputs) (Contains facts) x → Requires inputs facts x) × (Requires inputs facts x → FollowsFrom (rules_of inputs) (Contains facts) x)
