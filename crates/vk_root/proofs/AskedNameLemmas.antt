-- The features that are asked of the root.
use Rattle.std.proofs.Common.{◌≡◌, ◌<◌, ◌≤◌, ◌+◌, ◌&&◌, ℕ, Bool, true, false, cond, List, [], ◌∷◌, ◌++◌, map, filter, flat_map, take, length, inl, inr, refl, ap, sym, ◌∙◌, subst, arith, if◌then◌else◌}
use Rattle.std.specs.Prelude.{Some, slice_get, bytes_eq}
use Rattle.std.specs.List.{Contains}
use Rattle.std.proofs.lemmas.List.{take_all, take_more, map-append, take-append-le}
use Rattle.std.proofs.lemmas.List.Elements.{Contains-push_cases}
use Rattle.std.proofs.lemmas.Option.{get_or_from_slice_get, slice_get_within}
use Rattle.vk_spec.specs.Conditions.{holds}
use Rattle.vk_spec.specs.Manifests.{default}
use Rattle.vk_spec.specs.Settings.{Setting}
use Rattle.vk_spec.proofs.ListLemmas.{contains_nothing}
use Rattle.vk_resolution.specs.Least.{Rules, FollowsFrom, from_one, from_two, IsLeast}
use Rattle.vk_resolution.specs.Settings.{Marks, marks_of, names_of, dependencies_of, asked_of_root_by, root_rules_of}
use Rattle.vk_resolution.proofs.Members.{map_contains}
use Rattle.vk_base.specs.FeatureViews.{feature_view}
use Rattle.vk_base.specs.declared.features.FeatureName.{FeatureName}
use Rattle.vk_expr.specs.Views.{condition_of}
use Rattle.vk_model.specs.Views.{use_view, dependency_view}
use Rattle.vk_model.specs.declared.manifests.FeatureUse as code_use
use Rattle.vk_model.specs.declared.manifests.Dependency as code_dependency
use Rattle.vk_root.specs.Roots.{is_on_root}
use Rattle.vk_root.specs.AskedNames.{names_view, name_where, names_each, Grows, IsAskedSoFar}
use Rattle.vk_root.proofs.GrowthLemmas.{grows_within}

-- ---- what a feature of the root asks of the root

module _ (marks : Marks) where
  use_step : (u : code_use.FeatureUse) (us : List code_use.FeatureUse) (b : Bool) → flat_map (name_where marks) us ≡ names_of marks (map use_view us)
      → cond b (feature_view u.name ∷ []) [] ++ flat_map (name_where marks) us ≡ map (λ v. v.name) (cond b (use_view u ∷ filter (λ v. holds v.platform marks) (map use_view us)) (filter (λ v. holds v.platform marks) (map use_view us)))
  use_step u us true rest = ap (λ l. feature_view u.name ∷ l) rest
  use_step u us false rest = rest

  names_listed : (us : List code_use.FeatureUse) → flat_map (name_where marks) us ≡ names_of marks (map use_view us)
  names_listed [] = refl
  names_listed (u ∷ us) = use_step u us (holds (condition_of u.platform) marks) (names_listed us)

  -- the names of a loop that is through
  pub names_all : (us : List code_use.FeatureUse) (n : ℕ) → length us ≤ n → flat_map (name_where marks) (take n us) ≡ names_of marks (map use_view us)
  names_all us n through = ap (flat_map (name_where marks)) (take_all n us through) ∙ names_listed us

module _ (s : Setting) where
  own_step : (d : code_dependency.Dependency) (ds : List code_dependency.Dependency) (marks : Marks) (a b : Bool) → is_on_root s (dependency_view d) ≡ b
      → names_each s marks ds ≡ flat_map (asked_of_root_by s) (filter (λ e. holds e.platform marks) (map dependency_view ds)) → marks ≡ marks_of s s.target.name
      → cond (a && b) (names_of marks (map use_view d.features)) [] ++ names_each s marks ds
      ≡ flat_map (asked_of_root_by s) (cond a (dependency_view d ∷ filter (λ e. holds e.platform marks) (map dependency_view ds)) (filter (λ e. holds e.platform marks) (map dependency_view ds)))
  own_step d ds marks false b own rest at = rest
  own_step d ds marks true true own rest at =
      let here : names_of marks (map use_view d.features) ≡ asked_of_root_by s (dependency_view d) =
      ap (λ m. names_of m (map use_view d.features)) at ∙ sym (ap (λ c. cond c (names_of (marks_of s s.target.name) (map use_view d.features)) []) own) in
      ap (λ l. l ++ names_each s marks ds) here ∙ ap (λ l. asked_of_root_by s (dependency_view d) ++ l) rest
  own_step d ds marks true false own rest at =
      let here : [] ≡ asked_of_root_by s (dependency_view d) = sym (ap (λ c. cond c (names_of (marks_of s s.target.name) (map use_view d.features)) []) own) in
      ap (λ l. l ++ names_each s marks ds) here ∙ ap (λ l. asked_of_root_by s (dependency_view d) ++ l) rest

  own_each : (marks : Marks) (ds : List code_dependency.Dependency) → marks ≡ marks_of s s.target.name
      → names_each s marks ds ≡ flat_map (asked_of_root_by s) (filter (λ e. holds e.platform marks) (map dependency_view ds))
  own_each marks [] at = refl
  own_each marks (d ∷ ds) at = own_step d ds marks (holds (condition_of d.platform) marks) (is_on_root s (dependency_view d)) refl (own_each marks ds at) at

  default_names : (marks : Marks) (b : Bool) (l : List _) → names_of marks (cond b l []) ≡ cond b (names_of marks l) []
  default_names marks true l = refl
  default_names marks false l = refl

  -- what a feature asks of the root, as its lists were gone through
  pub asked_made : (f : List ℕ) (marks : Marks) (ds : List code_dependency.Dependency) (us : List code_use.FeatureUse) (before made new : List FeatureName)
      → before ≡ [] → names_view made ≡ names_view before ++ names_each s marks ds → names_view new ≡ names_view made ++ names_of marks (map use_view us)
      → marks ≡ marks_of s s.target.name → map dependency_view ds ≡ dependencies_of s.root f → map use_view us ≡ (if bytes_eq f default then s.root.default_features else [])
      → names_view new ≡ (root_rules_of s).alone f
  asked_made f marks ds us before made new none first second at listed by_default =
      let own : names_each s marks ds ≡ flat_map (asked_of_root_by s) (filter (λ e. holds e.platform (marks_of s s.target.name)) (dependencies_of s.root f)) =
      own_each marks ds at ∙ ap (λ m. flat_map (asked_of_root_by s) (filter (λ e. holds e.platform m) (map dependency_view ds))) at
      ∙ ap (λ l. flat_map (asked_of_root_by s) (filter (λ e. holds e.platform (marks_of s s.target.name)) l)) listed in
      let defaults : names_of marks (map use_view us) ≡ (if bytes_eq f default then names_of (marks_of s s.target.name) s.root.default_features else []) =
      ap (names_of marks) by_default ∙ default_names marks (bytes_eq f default) s.root.default_features ∙ ap (λ m. if bytes_eq f default then names_of m s.root.default_features else []) at in
      second ∙ ap (λ l. l ++ names_of marks (map use_view us)) (first ∙ ap (λ l. names_view l ++ names_each s marks ds) none)
      ∙ ap (λ l. names_each s marks ds ++ l) defaults ∙ ap (λ l. l ++ (if bytes_eq f default then names_of (marks_of s s.target.name) s.root.default_features else [])) own

-- ---- the worklist

module _ (rules : Rules (List ℕ)) where
  -- the names from which all others follow
  pub asked_first : (names : List FeatureName) → Grows [] names rules.roots → IsAskedSoFar rules 0 names
  asked_first names grows = record {
    roots = grows.complete;
    steps = λ f h. absurd (contains_nothing f h);
    distinct = grows.distinct tt;
    within = λ other closed x h. elim (grows.sound x h) [ inl none ↦ absurd (contains_nothing x none) | inr first ↦ closed.roots x first ];
  }

  -- one more is taken up
  pub asked_next : (n : ℕ) (old new : List FeatureName) (f : FeatureName) (asked : List (List ℕ)) → IsAskedSoFar rules n old → slice_get old n ≡ Some f → asked ≡ rules.alone (feature_view f) → Grows old new asked → IsAskedSoFar rules (n + 1) new
  asked_next n old new f asked was at is grows =
      let inside : n < length old = slice_get_within old n f at in
      let fits : n + 1 ≤ length old = omega (arith, inside) in
      let taken : take (n + 1) new ≡ take n old ++ f ∷ [] =
      ap (take (n + 1)) grows.kept ∙ take-append-le (n + 1) old grows.more fits ∙ take_more old n f inside ∙ ap (λ k. take n old ++ k ∷ []) (get_or_from_slice_get old n f f at) in
      let seen : names_view (take (n + 1) new) ≡ names_view (take n old) ++ feature_view f ∷ [] = ap names_view taken ∙ map-append feature_view (take n old) (f ∷ []) in
      let here : Contains (names_view old) (feature_view f) = map_contains feature_view old f (n, inside, get_or_from_slice_get old n f f at) in
      record {
        roots = λ x h. grows_within grows x (was.roots x h);
        steps = λ g h x follows. elim (Contains-push_cases (names_view (take n old)) (feature_view f) g (subst (λ l. Contains l g) seen h)) [
          | inl before ↦ grows_within grows x (was.steps g before x follows)
          | inr same ↦ grows.complete x (subst (λ l. Contains l x) (sym is) (subst (λ k. Contains (rules.alone k) x) (sym same) follows))
        ];
        distinct = grows.distinct was.distinct;
        within = λ other closed x h. elim (grows.sound x h) [
          | inl before ↦ was.within other closed x before
          | inr new_one ↦ closed.steps x (from_one (feature_view f) (was.within other closed (feature_view f) here) (subst (λ l. Contains l x) is new_one))
        ];
      }

  -- all are taken up
  pub asked_last : (n : ℕ) (names : List FeatureName) → ((a b : List ℕ) → rules.together a b ≡ []) → IsAskedSoFar rules n names → length names ≤ n → IsLeast rules (names_view names)
  asked_last n names alone was through = record {
    closed = record { roots = was.roots; steps = follows };
    forced = record { distinct = was.distinct; within = was.within };
  }
    where
      follows : (x : List ℕ) → FollowsFrom rules (Contains (names_view names)) x → Contains (names_view names) x
      follows x (from_one a at asked) = was.steps a (subst (λ l. Contains (names_view l) a) (sym (take_all n names through)) at) x asked
      follows x (from_two a b one two asked) = absurd (contains_nothing x (subst (λ l. Contains l x) (alone a b) asked))
