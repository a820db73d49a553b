-- What the root mentions of its own features: nothing else is asked of it but the words.
use Rattle.std.specs.Prelude.{◌⊎◌, ◌++◌, ℕ, List, [], map, flat_map, if◌then◌else◌}
use Rattle.std.specs.List.{Contains}
use Rattle.vk_spec.specs.Conditions.{Condition}
use Rattle.vk_spec.specs.Manifests.{Manifest, Dependency}
use Rattle.vk_spec.specs.Settings.{Setting}
use Rattle.vk_resolution.specs.Least.{IsClosed}
use Rattle.vk_resolution.specs.Settings.{root, instance_of, is_own, first_features_of, root_rules_of, IsAskedOfRoot}

-- the dependencies of a manifest: its own, and those of its features
abbrev pub all_dependencies_of : Manifest Condition → List (Dependency Condition)
all_dependencies_of m = m.dependencies ++ flat_map (λ g. g.dependencies) m.features

-- the features that a dependency lists, where it is on the root's own instance
abbrev pub mentioned_by : Setting → Dependency Condition → List (List ℕ)
mentioned_by s d = if is_own s (root s.target.name) (instance_of s (root s.target.name) d) then map (λ u. u.name) d.features else []

-- the features that the root's dependencies on itself list, and its default features, whatever the conditions say
abbrev pub mentioned_of : Setting → List (List ℕ)
mentioned_of s = flat_map (mentioned_by s) (all_dependencies_of s.root) ++ map (λ u. u.name) s.root.default_features

-- every asked feature of the root is one of the words, `core` and `default` among them, or is mentioned
abbrev pub AskedIsMentioned : Type 0
AskedIsMentioned = (s : Setting) (f : List ℕ) → IsAskedOfRoot s f → Contains (first_features_of s) f ⊎ Contains (mentioned_of s) f

-- and those together are closed, so that asking ends
abbrev pub MentionedIsClosed : Type 0
MentionedIsClosed = (s : Setting) → IsClosed (root_rules_of s) (first_features_of s ++ mentioned_of s)
