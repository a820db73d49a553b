-- What is asked of the root is mentioned by it.
use Rattle.std.proofs.Common.{◌≡◌, ℕ, Bool, true, false, cond, List, [], ◌++◌, map, filter, inl, inr, refl, subst}
use Rattle.std.specs.Prelude.{Option, Some, None, flat_map, bytes_eq}
use Rattle.std.specs.List.{Contains}
use Rattle.std.proofs.lemmas.List.Elements.{Contains-append_left, Contains-append_right, Contains-append_cases}
use Rattle.vk_spec.specs.Conditions.{Condition, holds}
use Rattle.vk_spec.specs.Manifests.{Manifest, Dependency, FeatureUse, Feature, core, default}
use Rattle.vk_spec.specs.Settings.{Setting}
use Rattle.vk_spec.proofs.ListLemmas.{contains_nothing, contains-flat_map, flat_map-contains}
use Rattle.vk_resolution.specs.Least.{FollowsFrom, from_one, from_two}
use Rattle.vk_resolution.specs.Settings.{Marks, root, marks_of, instance_of, is_own, feature_of, dependencies_in, dependencies_of, applicable_of, names_of, defaults_of, asked_of_root_by, first_features_of, root_rules_of}
use Rattle.vk_resolution.specs.Mentions.{all_dependencies_of, mentioned_by, mentioned_of, AskedIsMentioned, MentionedIsClosed}
use Rattle.vk_resolution.proofs.Members.{contains_map, map_contains, contains_filter, found_contains}
use Rattle.vk_resolution.proofs.LeastLemmas.{reached_within}

-- the names that apply are names
name_listed : (marks : Marks) (uses : List (FeatureUse Condition)) (f : List ℕ) → Contains (names_of marks uses) f → Contains (map (λ (u : FeatureUse Condition). u.name) uses) f
name_listed marks uses f h =
    let r = contains_map (λ (u : FeatureUse Condition). u.name) (filter (λ u. holds u.platform marks) uses) f h in
    subst (Contains (map (λ (u : FeatureUse Condition). u.name) uses)) r.2 (map_contains (λ (u : FeatureUse Condition). u.name) uses r.0 (contains_filter (λ u. holds u.platform marks) uses r.0 r.1).0)

-- a dependency of a feature is one of the manifest
module _ (m : Manifest Condition) (f : List ℕ) (d : Dependency Condition) where
  in_feature : (o : Option (Feature Condition)) → feature_of m f ≡ o → Contains (dependencies_in o) d → Contains (flat_map (λ (g : Feature Condition). g.dependencies) m.features) d
  in_feature None e h = absurd (contains_nothing d h)
  in_feature (Some g) e h = flat_map-contains (λ (k : Feature Condition). k.dependencies) m.features g d (found_contains (λ k. bytes_eq k.name f) m.features g e).0 h

  by_case : (b c : Bool) → Contains (cond b m.dependencies (cond c [] (dependencies_in (feature_of m f)))) d → Contains (all_dependencies_of m) d
  by_case true c h = Contains-append_left m.dependencies (flat_map (λ (g : Feature Condition). g.dependencies) m.features) d h
  by_case false true h = absurd (contains_nothing d h)
  by_case false false h = Contains-append_right m.dependencies (flat_map (λ (g : Feature Condition). g.dependencies) m.features) d (in_feature (feature_of m f) refl h)

  pub is_dependency : Contains (dependencies_of m f) d → Contains (all_dependencies_of m) d
  is_dependency h = by_case (bytes_eq f core) (bytes_eq f default) h

module _ (s : Setting) where
  by_own : (d : Dependency Condition) (f : List ℕ) (b : Bool) → Contains (cond b (names_of (marks_of s s.target.name) d.features) []) f → Contains (cond b (map (λ (u : FeatureUse Condition). u.name) d.features) []) f
  by_own d f true h = name_listed (marks_of s s.target.name) d.features f h
  by_own d f false h = h

  by_default : (g f : List ℕ) (b : Bool) → Contains (cond b (names_of (marks_of s s.target.name) s.root.default_features) []) f → Contains (map (λ (u : FeatureUse Condition). u.name) s.root.default_features) f
  by_default g f true h = name_listed (marks_of s s.target.name) s.root.default_features f h
  by_default g f false h = absurd (contains_nothing f h)

  -- what a feature of the root asks of the root is mentioned
  asked_mentioned : (g f : List ℕ) → Contains (flat_map (asked_of_root_by s) (applicable_of s (root s.target.name) g s.root) ++ defaults_of s (root s.target.name) g s.root) f → Contains (mentioned_of s) f
  asked_mentioned g f h =
      let defaults : List (List ℕ) = map (λ (u : FeatureUse Condition). u.name) s.root.default_features in
      elim (Contains-append_cases (flat_map (asked_of_root_by s) (applicable_of s (root s.target.name) g s.root)) (defaults_of s (root s.target.name) g s.root) f h) [
        | inl by_one ↦ (
            let r = contains-flat_map (asked_of_root_by s) (applicable_of s (root s.target.name) g s.root) f by_one in
            let q = contains_filter (λ d. holds d.platform (marks_of s s.target.name)) (dependencies_of s.root g) r.0 r.1 in
            Contains-append_left (flat_map (mentioned_by s) (all_dependencies_of s.root)) defaults f
            (flat_map-contains (mentioned_by s) (all_dependencies_of s.root) r.0 f (is_dependency s.root g r.0 q.0) (by_own r.0 f (is_own s (root s.target.name) (instance_of s (root s.target.name) r.0)) r.2))
            )
        | inr default_one ↦ Contains-append_right (flat_map (mentioned_by s) (all_dependencies_of s.root)) defaults f (by_default g f (bytes_eq g default) default_one)
      ]

  mentioned_follows : (f : List ℕ) → FollowsFrom (root_rules_of s) (Contains (first_features_of s ++ mentioned_of s)) f → Contains (first_features_of s ++ mentioned_of s) f
  mentioned_follows f (from_one g holds asked) = Contains-append_right (first_features_of s) (mentioned_of s) f (asked_mentioned g f asked)
  mentioned_follows f (from_two g k one other asked) = absurd (contains_nothing f asked)

pub mentioned_is_closed : MentionedIsClosed
mentioned_is_closed s = record { roots = λ f h. Contains-append_left (first_features_of s) (mentioned_of s) f h; steps = mentioned_follows s }

pub asked_is_mentioned : AskedIsMentioned
asked_is_mentioned s f asked = Contains-append_cases (first_features_of s) (mentioned_of s) f (reached_within (root_rules_of s) (first_features_of s ++ mentioned_of s) (mentioned_is_closed s) asked.0 f asked.1)
