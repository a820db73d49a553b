-- Who has requirements, what applies to whom, what the root is asked for, and what is off.
use Rattle.std.specs.Prelude.{◌≡◌, ℕ, Bool, false, ◌&&◌, List, [], ◌∷◌, ◌++◌, map, filter, flat_map, Option, Some, None, bytes_eq, if◌then◌else◌}
use Rattle.std.specs.List.{Contains, list_any, find}
use Rattle.vk_spec.specs.Conditions.{Condition, holds}
use Rattle.vk_spec.specs.Manifests.{Manifest, Dependency, FeatureUse, Feature, core, default}
use Rattle.vk_spec.specs.Settings.{Instance, Setting, with_native}
use Rattle.vk_resolution.specs.Least.{Rules, IsReached}

-- the marks that hold for an instance
abbrev pub Marks : Type 0
Marks = List (List ℕ)

-- who has requirements: the root, for the target triplet, or an instance
pub data Who : Type 0 where
  root : List ℕ → Who
  inst : Instance → Who

-- the triplet of who has requirements
abbrev pub triplet_of : Who → List ℕ
triplet_of (root triplet) = triplet
triplet_of (inst i) = i.triplet

-- the marks of a triplet's instances, `native` among them where it is the host's
abbrev pub marks_of : Setting → List ℕ → Marks
marks_of s triplet = if bytes_eq triplet s.host.name then with_native s.host.marks else s.target.marks

-- instances are the same where port and triplet are
abbrev pub same_instance : Instance → Instance → Bool
same_instance i j = bytes_eq i.port j.port && bytes_eq i.triplet j.triplet

-- the instance that a dependency of someone is on
abbrev pub instance_of : Setting → Who → Dependency Condition → Instance
instance_of s who d = record { port = d.name; triplet = if d.host then s.host.name else triplet_of who }

-- the root's own instance: its name, if it has one, for the target triplet
abbrev pub is_root : Option (List ℕ) → List ℕ → Instance → Bool
is_root None triplet j = false
is_root (Some name) triplet j = same_instance (record { port = name; triplet = triplet }) j

-- whether an instance is that of the one who depends
abbrev pub is_own : Setting → Who → Instance → Bool
is_own s (root triplet) j = is_root s.root.name triplet j
is_own s (inst i) j = same_instance i j

-- the feature of a manifest with a name
abbrev pub feature_of : Manifest Condition → List ℕ → Option (Feature Condition)
feature_of m f = find (λ g. bytes_eq g.name f) m.features

-- the dependencies of a feature, if it is there
abbrev pub dependencies_in : Option (Feature Condition) → List (Dependency Condition)
dependencies_in None = []
dependencies_in (Some g) = g.dependencies

-- the dependencies of a feature: those of `core` are the manifest's own, `default` has none
abbrev pub dependencies_of : Manifest Condition → List ℕ → List (Dependency Condition)
dependencies_of m f = if bytes_eq f core then m.dependencies else if bytes_eq f default then [] else dependencies_in (feature_of m f)

-- those that apply: their platform is judged under the marks of the one that depends, also where they are for the host
abbrev pub applicable_of : Setting → Who → List ℕ → Manifest Condition → List (Dependency Condition)
applicable_of s who f m = filter (λ d. holds d.platform (marks_of s (triplet_of who))) (dependencies_of m f)

-- the names of the listed features that apply
abbrev pub names_of : Marks → List (FeatureUse Condition) → List (List ℕ)
names_of marks uses = map (λ u. u.name) (filter (λ u. holds u.platform marks) uses)

-- the default features that apply, where the feature is `default`
abbrev pub defaults_of : Setting → Who → List ℕ → Manifest Condition → List (List ℕ)
defaults_of s who f m = if bytes_eq f default then names_of (marks_of s (triplet_of who)) m.default_features else []

-- what a dependency asks of the root itself: its features, where it is on the root's own instance
abbrev pub asked_of_root_by : Setting → Dependency Condition → List (List ℕ)
asked_of_root_by s d =
    if is_own s (root s.target.name) (instance_of s (root s.target.name) d) then names_of (marks_of s s.target.name) d.features else []

-- the root's asked features: `core`, those of the words, `default` unless it is switched off, and all that these ask of the root itself
abbrev pub first_features_of : Setting → List (List ℕ)
first_features_of s = core ∷ s.features ++ (if s.defaults then default ∷ [] else [])

-- how features of the root follow from features of the root
abbrev pub root_rules_of : Setting → Rules (List ℕ)
root_rules_of s = record {
  roots = first_features_of s;
  alone = λ f. flat_map (asked_of_root_by s) (applicable_of s (root s.target.name) f s.root) ++ defaults_of s (root s.target.name) f s.root;
  together = λ f g. [];
}

-- a feature is asked of the root
abbrev pub IsAskedOfRoot : Setting → List ℕ → Type 0
IsAskedOfRoot s f = (n : ℕ) × IsReached (root_rules_of s) n f

-- the root names another instance, by an applicable dependency of one of its asked features
pub record IsNamedByRoot (s : Setting) (d : Dependency Condition) (j : Instance) : Type 0 where
  pub feature : List ℕ
  pub asked : IsAskedOfRoot s feature
  pub applies : Contains (applicable_of s (root s.target.name) feature s.root) d
  pub names : instance_of s (root s.target.name) d ≡ j
  pub other : is_own s (root s.target.name) j ≡ false

-- an instance is off where the root names it, and never with its default features
pub record IsOff (s : Setting) (j : Instance) : Type 0 where
  pub by : Dependency Condition
  pub named : IsNamedByRoot s by j
  pub never : (d : Dependency Condition) → IsNamedByRoot s d j → d.defaults ≡ false

-- the setting lists exactly the instances that are off
abbrev pub ListsOff : Setting → Type 0
ListsOff s = (j : Instance) → (Contains s.off j → IsOff s j) × (IsOff s j → Contains s.off j)

-- default features are never asked for an instance that is off
abbrev pub is_off : Setting → Instance → Bool
is_off s j = list_any (same_instance j) s.off
