-- What is needed of the root is what is asked of it.
use Rattle.std.proofs.Common.{◌≡◌, ℕ, zero, suc, Bool, true, false, cond, List, [], ◌∷◌, ◌++◌, map, inl, inr, refl, ap, sym, ◌∙◌, subst}
use Rattle.std.specs.Prelude.{Option, Some, None, flat_map}
use Rattle.std.specs.List.{Contains}
use Rattle.std.proofs.lemmas.List.Elements.{Contains-append_left, Contains-append_right, Contains-append_cases}
use Rattle.vk_spec.specs.Conditions.{Condition}
use Rattle.vk_spec.specs.Versions.{Ask}
use Rattle.vk_spec.specs.Manifests.{Manifest, Dependency, core, default}
use Rattle.vk_spec.specs.Settings.{Setting, Instance}
use Rattle.vk_spec.proofs.ListLemmas.{contains_nothing, contains_first, contains_later, contains_cases, contains-flat_map, flat_map-contains}
use Rattle.vk_resolution.specs.Least.{from_one, from_two, IsReached, IsLeast}
use Rattle.vk_resolution.specs.Settings.{Marks, root, inst, marks_of, instance_of, is_own, is_off, applicable_of, names_of, defaults_of, asked_of_root_by, first_features_of, root_rules_of, IsAskedOfRoot}
use Rattle.vk_resolution.specs.Asking.{Fact, need, floor, visit, fact_key, floor_of, asked_of_other, asked_of_own, asked_by, asked_of, root_facts_of}
use Rattle.vk_resolution.specs.Consequences.{Inputs, rules_of}
use Rattle.vk_resolution.specs.Sentences.{Asks, a_core, a_default, a_feature, a_minimum, own_feature, own_minimum, a_default_feature, Requires, given_floor, a_visit, asked_by_visit, asked_by_root}
use Rattle.vk_resolution.specs.RootLaws.{IsFirstNeed, of_core, of_word, of_default, RootFactsMean, RootFeaturesAreNeeded}
use Rattle.vk_resolution.proofs.Members.{contains_map, map_contains, contains_single}
use Rattle.vk_resolution.proofs.FactLemmas.{fact_key-IsKey}
use Rattle.vk_resolution.proofs.Rounds.{member_ranked}
use Rattle.vk_resolution.proofs.Derivations.{visits_are}
use Rattle.vk_resolution.proofs.SentenceLemmas.{asked_means, rules_mean}

-- the root facts
module _ (s : Setting) where
  default_first : (b : Bool) → s.defaults ≡ b → (f : List ℕ) → Contains (cond b (default ∷ []) []) f → IsFirstNeed s (need (root s.target.name) f)
  default_first true e f h = subst (λ g. IsFirstNeed s (need (root s.target.name) g)) (contains_single default f h) (of_default e)
  default_first false e f h = absurd (contains_nothing f h)

  feature_first : (f : List ℕ) → Contains (first_features_of s) f → IsFirstNeed s (need (root s.target.name) f)
  feature_first f h =
      elim (contains_cases core f (s.features ++ cond s.defaults (default ∷ []) []) h) [
        | inl same ↦ subst (λ g. IsFirstNeed s (need (root s.target.name) g)) same of_core
        | inr later ↦ elim (Contains-append_cases s.features (cond s.defaults (default ∷ []) []) f later) [
          | inl word ↦ of_word f word
          | inr last ↦ default_first s.defaults refl f last
        ]
      ]

  fact_first : (x : Fact) → Contains (root_facts_of s) x → IsFirstNeed s x
  fact_first x h = let r = contains_map (need (root s.target.name)) (first_features_of s) x h in subst (IsFirstNeed s) r.2 (feature_first r.0 r.1)

  first_feature : (f : List ℕ) → Contains (first_features_of s) f → Contains (root_facts_of s) (need (root s.target.name) f)
  first_feature f h = map_contains (need (root s.target.name)) (first_features_of s) f h

  first_fact : (x : Fact) → IsFirstNeed s x → Contains (root_facts_of s) x
  first_fact _ of_core = first_feature core (contains_first core (s.features ++ cond s.defaults (default ∷ []) []))
  first_fact _ (of_word f h) = first_feature f (contains_later core f (s.features ++ cond s.defaults (default ∷ []) []) (Contains-append_left s.features (cond s.defaults (default ∷ []) []) f h))
  first_fact _ (of_default e) =
      first_feature default (contains_later core default (s.features ++ cond s.defaults (default ∷ []) []) (Contains-append_right s.features (cond s.defaults (default ∷ []) []) default
      (subst (λ b. Contains (cond b (default ∷ []) []) default) (sym e) (contains_first default []))))

pub root_facts_mean : RootFactsMean
root_facts_mean s x = (fact_first s x, first_fact s x)

-- what follows from the root's needs
module _ (s : Setting) where
  -- of another instance nothing is needed of the root
  other_not_root : (t f : List ℕ) (j : Instance) (d : Dependency Condition) (marks : Marks) → Contains (asked_of_other s marks j d) (need (root t) f) → ⊥
  other_not_root t f j d marks h =
      let x : Fact = need (root t) f in
      let defaults : List Fact = cond (is_off s j) [] (need (inst j) default ∷ []) in
      let features : List Fact = map (need (inst j)) (names_of marks d.features) in
      elim (contains_cases (need (inst j) core) x (defaults ++ features ++ floor_of j.port d.minimum) h) [
        | inl same ↦ (let clash : need (inst j) core ≡ need (root t) f = same in (cc))
        | inr later ↦ elim (Contains-append_cases (defaults ++ features) (floor_of j.port d.minimum) x later) [
          | inl in_needs ↦ elim (Contains-append_cases defaults features x in_needs) [
            | inl in_defaults ↦ by_default (is_off s j) in_defaults
            | inr in_features ↦ (let r = contains_map (need (inst j)) (names_of marks d.features) x in_features in let clash : need (inst j) r.0 ≡ need (root t) f = r.2 in (cc))
          ]
          | inr in_floor ↦ by_floor d.minimum in_floor
        ]
      ]
    where
      by_default : (b : Bool) → Contains (cond b [] (need (inst j) default ∷ [])) (need (root t) f) → ⊥
      by_default true at = contains_nothing (need (root t) f) at
      by_default false at = let clash : need (inst j) default ≡ need (root t) f = contains_single (need (inst j) default) (need (root t) f) at in (cc)

      by_floor : (o : Option Ask) → Contains (floor_of j.port o) (need (root t) f) → ⊥
      by_floor None at = contains_nothing (need (root t) f) at
      by_floor (Some a) at = let clash : floor j.port a ≡ need (root t) f = contains_single (floor j.port a) (need (root t) f) at in (cc)

  -- what the root's dependency asks of the root
  asked_by_root_is : (t u f : List ℕ) (d : Dependency Condition) (b : Bool) → is_own s (root t) (instance_of s (root t) d) ≡ b
      → Contains (cond b (asked_of_own (root t) (marks_of s t) d) (asked_of_other s (marks_of s t) (instance_of s (root t) d) d)) (need (root u) f) → (t ≡ u) × (b ≡ true) × Contains (names_of (marks_of s t) d.features) f
  asked_by_root_is t u f d true e h =
      let r = contains_map (need (root t)) (names_of (marks_of s t) d.features) (need (root u) f) h in
      let is : need (root t) r.0 ≡ need (root u) f = r.2 in
      let same : t ≡ u = (cc) in
      let name : r.0 ≡ f = (cc) in
      (same, refl, subst (Contains (names_of (marks_of s t) d.features)) name r.1)
  asked_by_root_is t u f d false e h = absurd (other_not_root u f (instance_of s (root t) d) d (marks_of s t) h)

  -- the root rules, for any triplet
  abbrev features_asked : List ℕ → List ℕ → List (List ℕ)
  features_asked t g = flat_map (λ d. cond (is_own s (root t) (instance_of s (root t) d)) (names_of (marks_of s t) d.features) []) (applicable_of s (root t) g s.root) ++ defaults_of s (root t) g s.root

  asked_feature : (t u g f : List ℕ) → Contains (asked_of s (root t) g s.root) (need (root u) f) → (t ≡ u) × Contains (features_asked t g) f
  asked_feature t u g f h =
      let by : Dependency Condition → List (List ℕ) = λ d. cond (is_own s (root t) (instance_of s (root t) d)) (names_of (marks_of s t) d.features) [] in
      let from : List (Dependency Condition) = applicable_of s (root t) g s.root in
      elim (Contains-append_cases (flat_map (asked_by s (root t)) from) (map (need (root t)) (defaults_of s (root t) g s.root)) (need (root u) f) h) [
        | inl by_dependency ↦ (
            let r = contains-flat_map (asked_by s (root t)) from (need (root u) f) by_dependency in
            let q = asked_by_root_is t u f r.0 (is_own s (root t) (instance_of s (root t) r.0)) refl r.2 in
            let here : Contains (by r.0) f = subst (λ b. Contains (cond b (names_of (marks_of s t) r.0.features) []) f) (sym q.1) q.2 in
            (q.0, Contains-append_left (flat_map by from) (defaults_of s (root t) g s.root) f (flat_map-contains by from r.0 f r.1 here))
            )
        | inr by_default ↦ (
            let r = contains_map (need (root t)) (defaults_of s (root t) g s.root) (need (root u) f) by_default in
            let is : need (root t) r.0 ≡ need (root u) f = r.2 in
            let same : t ≡ u = (cc) in
            let name : r.0 ≡ f = (cc) in
            (same, Contains-append_right (flat_map by from) (defaults_of s (root t) g s.root) f (subst (Contains (defaults_of s (root t) g s.root)) name r.1))
            )
      ]

  own_asked : (d : Dependency Condition) (f : List ℕ) (b : Bool) → Contains (cond b (names_of (marks_of s s.target.name) d.features) []) f
      → Contains (cond b (asked_of_own (root s.target.name) (marks_of s s.target.name) d) (asked_of_other s (marks_of s s.target.name) (instance_of s (root s.target.name) d) d)) (need (root s.target.name) f)
  own_asked d f true h = map_contains (need (root s.target.name)) (names_of (marks_of s s.target.name) d.features) f h
  own_asked d f false h = absurd (contains_nothing f h)

  feature_asked : (g f : List ℕ) → Contains (features_asked s.target.name g) f → Contains (asked_of s (root s.target.name) g s.root) (need (root s.target.name) f)
  feature_asked g f h =
      let t : List ℕ = s.target.name in
      let from : List (Dependency Condition) = applicable_of s (root t) g s.root in
      elim (Contains-append_cases (flat_map (asked_of_root_by s) from) (defaults_of s (root t) g s.root) f h) [
        | inl by_one ↦ (
            let r = contains-flat_map (asked_of_root_by s) from f by_one in
            Contains-append_left (flat_map (asked_by s (root t)) from) (map (need (root t)) (defaults_of s (root t) g s.root)) (need (root t) f)
            (flat_map-contains (asked_by s (root t)) from r.0 (need (root t) f) r.1 (own_asked r.0 f (is_own s (root t) (instance_of s (root t) r.0)) r.2))
            )
        | inr default_one ↦
            Contains-append_right (flat_map (asked_by s (root t)) from) (map (need (root t)) (defaults_of s (root t) g s.root)) (need (root t) f) (map_contains (need (root t)) (defaults_of s (root t) g s.root) f default_one)
      ]

-- an instance's manifest asks nothing of the root
not_asked_root : (s : Setting) (i : Instance) (g : List ℕ) (m : Manifest Condition) (t f : List ℕ) (x : Fact) → x ≡ need (root t) f → Asks s (inst i) g m x → ⊥
not_asked_root s i g m t f _ e (a_core d depends other) = (cc)
not_asked_root s i g m t f _ e (a_default d depends other on) = (cc)
not_asked_root s i g m t f _ e (a_feature d u depends other h applies) = (cc)
not_asked_root s i g m t f _ e (a_minimum d b depends other h) = (cc)
not_asked_root s i g m t f _ e (own_feature d u depends itself h applies) = (cc)
not_asked_root s i g m t f _ e (own_minimum d b j depends itself is h) = (cc)
not_asked_root s i g m t f _ e (a_default_feature u is h applies) = (cc)

module _ (inputs : Inputs) where
  abbrev triplet : List ℕ
  triplet = inputs.setting.target.name

  -- what is required of the root where one fact is, is asked by a need of the root
  required_is : (y x : Fact) (f : List ℕ) → x ≡ need (root triplet) f → Requires inputs (y ∷ []) x → (g : List ℕ) × (y ≡ need (root triplet) g) × Contains (features_asked inputs.setting triplet g) f
  required_is y _ f e (given_floor i g given h found) = (cc)
  required_is y _ f e (a_visit i g a one two may) = (cc)
  required_is y _ f e (asked_by_visit i g a m x h found asks kept) = absurd (not_asked_root inputs.setting i g m triplet f x e asks)
  required_is y _ f e (asked_by_root t g x h asks kept) =
      let asked : Contains (asked_of inputs.setting (root t) g inputs.setting.root) (need (root triplet) f) =
      subst (Contains (asked_of inputs.setting (root t) g inputs.setting.root)) e ((asked_means inputs.setting (root t) g inputs.setting.root x).1 asks) in
      let r = asked_feature inputs.setting t triplet g f asked in (
        g,
        contains_single y (need (root t) g) h ∙ ap (λ k. need (root k) g) r.0,
        subst (λ k. Contains (features_asked inputs.setting k g) f) r.0 r.1,
      )

  reached_asked : (n : ℕ) (x : Fact) (f : List ℕ) → x ≡ need (root triplet) f → IsReached (rules_of inputs) n x → IsAskedOfRoot inputs.setting f
  reached_asked zero x f e h =
      let r = contains_map (need (root triplet)) (first_features_of inputs.setting) x h in
      let is : need (root triplet) r.0 ≡ need (root triplet) f = r.2 ∙ e in
      let same : r.0 ≡ f = (cc) in
      (0, subst (Contains (first_features_of inputs.setting)) same r.1)
  reached_asked (suc n) x f e (inl before) = reached_asked n x f e before
  reached_asked (suc n) x f e (inr (from_one y holds asked)) =
      let r = required_is y x f e ((rules_mean inputs (y ∷ []) x).0 (from_one y (contains_first y []) asked)) in
      let before = reached_asked n y r.0 r.1 holds in
      (suc before.0, inr (from_one r.0 before.1 r.2))
  reached_asked (suc n) x f e (inr (from_two y z one two asked)) =
      let v = visits_are inputs y z x asked in
      let clash : need (root triplet) f ≡ visit v.i v.f v.v = sym e ∙ v.is_visit in
      (cc)

  asked_needed : (facts : List Fact) → IsLeast (rules_of inputs) facts → (n : ℕ) (f : List ℕ) → IsReached (root_rules_of inputs.setting) n f → Contains facts (need (root triplet) f)
  asked_needed facts least zero f h = least.closed.roots (need (root triplet) f) (map_contains (need (root triplet)) (first_features_of inputs.setting) f h)
  asked_needed facts least (suc n) f (inl before) = asked_needed facts least n f before
  asked_needed facts least (suc n) f (inr (from_one g holds asked)) =
      let x : Fact = need (root triplet) f in
      let asks : Asks inputs.setting (root triplet) g inputs.setting.root x = (asked_means inputs.setting (root triplet) g inputs.setting.root x).0 (feature_asked inputs.setting g f asked) in
      least.closed.steps x ((rules_mean inputs facts x).1 (asked_by_root triplet g x (asked_needed facts least n g holds) asks (λ p a e. (let clash : need (root triplet) f ≡ floor p a = e in (cc)))))
  asked_needed facts least (suc n) f (inr (from_two g k one two asked)) = absurd (contains_nothing f asked)

pub root_features_are_needed : RootFeaturesAreNeeded
root_features_are_needed inputs facts f least = (
  (λ h. (
      let x : Fact = need (root inputs.setting.target.name) f in
      let r = member_ranked (rules_of inputs) fact_key fact_key-IsKey facts least x h in
      reached_asked inputs r.0 x f refl r.1.reached
      )),
  (λ asked. asked_needed inputs facts least asked.0 f asked.1),
)
