-- The listed rules mean the sentences.
use Rattle.vk_spec.specs.Conditions.{holds, Condition}
use Rattle.std.proofs.Common.{◌≡◌, ◌≢◌, ◌⊎◌, ℕ, Bool, true, false, cond, not, List, [], ◌∷◌, ◌++◌, map, filter, inl, inr, refl, ap, sym, ◌∙◌, subst}
use Rattle.std.specs.Prelude.{Option, Some, None, flat_map, is_some, Result, Ok, Err, bytes_eq}
use Rattle.std.specs.List.{Contains}
use Rattle.std.proofs.lemmas.Slice.Eq.{bytes_eq-Decides}
use Rattle.std.proofs.lemmas.List.Elements.{Contains-append_left, Contains-append_right, Contains-append_cases}
use Rattle.vk_spec.specs.Versions.{Ask, same_ask, ask_of, same_version}
use Rattle.vk_spec.specs.Manifests.{Manifest, Dependency, FeatureUse, Feature, core, default}
use Rattle.vk_spec.specs.Pages.{Wrong, Given, overlay, override, baseline, Row, row_in}
use Rattle.vk_spec.proofs.ListLemmas.{contains_nothing, contains_first, contains_later, contains_cases, contains-flat_map, flat_map-contains}
use Rattle.vk_spec.proofs.VersionLemmas.{asks_equal, ask_itself, version_decides}
use Rattle.vk_spec.specs.Settings.{Setting, Instance}
use Rattle.vk_resolution.specs.Least.{FollowsFrom, from_one, from_two}
use Rattle.vk_resolution.specs.Settings.{Marks, Who, root, inst, marks_of, triplet_of, same_instance, instance_of, is_root, is_own, feature_of, dependencies_in, dependencies_of, applicable_of, names_of, defaults_of, is_off}
use Rattle.vk_resolution.specs.Givens.{manifest_at, is_pinned}
use Rattle.vk_resolution.specs.Asking.{Fact, need, floor, visit, floor_of, asked_of_other, asked_of_own, asked_by, asked_of}
use Rattle.vk_resolution.specs.Consequences.{Inputs, Step, given_step, asked_step, asked_in, steps_from, is_not_below, is_below, is_visited, is_visited_by, rules_of, by_overlay, by_override, by_baseline, by_one, by_minimum}
use Rattle.vk_resolution.specs.Sentences.{IsTrueFor, Depends, by_core, by_feature, IsOnItself, is_instance, is_the_root, IsOnAnother, Asks, a_core, a_default, a_feature, a_minimum, own_feature, own_minimum, a_default_feature, MayVisit, of_overlay, of_override, of_baseline, IsKept, Requires, given_floor, a_visit, asked_by_visit, asked_by_root, AskedMeans, RulesMean}
use Rattle.vk_resolution.proofs.Members.{true_or_false, both_true, and_true, not_true, not_false, no_is_false, true_false, any_contains, contains_any, contains_filter, filter_contains, contains_map, map_contains, contains_single}
use Rattle.vk_resolution.proofs.FactLemmas.{same_instance-Decides}
use Rattle.vk_resolution.proofs.Derivations.{visits_are}
use Rattle.vk_resolution.proofs.ChoiceLemmas.{given_fact}

-- the names of a list, and the uses that they are of
names_are : (marks : Marks) (uses : List (FeatureUse Condition)) (g : List ℕ) → Contains (names_of marks uses) g → (u : FeatureUse Condition) × Contains uses u × (holds u.platform marks ≡ true) × (u.name ≡ g)
names_are marks uses g h =
    let r = contains_map (λ (u : FeatureUse Condition). u.name) (filter (λ u. holds u.platform marks) uses) g h in
    let q = contains_filter (λ (u : FeatureUse Condition). holds u.platform marks) uses r.0 r.1 in
    (r.0, q.0, q.1, r.2)

are_names : (marks : Marks) (uses : List (FeatureUse Condition)) (u : FeatureUse Condition) → Contains uses u → holds u.platform marks ≡ true → Contains (names_of marks uses) u.name
are_names marks uses u h e = map_contains (λ (k : FeatureUse Condition). k.name) (filter (λ k. holds k.platform marks) uses) u (filter_contains (λ (k : FeatureUse Condition). holds k.platform marks) uses u h e)

-- a dependency of a feature
feature_there : (o : Option (Feature Condition)) (d : Dependency Condition) → Contains (dependencies_in o) d → (g : Feature Condition) × (o ≡ Some g) × Contains g.dependencies d
feature_there None d h = absurd (contains_nothing d h)
feature_there (Some g) d h = (g, refl, h)

differs_from : (f g : List ℕ) → bytes_eq f g ≡ false → f ≢ g
differs_from f g e same = true_false (bytes_eq f g) ((bytes_eq-Decides f g).1 same) e

is_same : (f g : List ℕ) → f ≡ g → bytes_eq f g ≡ true
is_same f g e = (bytes_eq-Decides f g).1 e

isnt_same : (f g : List ℕ) → f ≢ g → bytes_eq f g ≡ false
isnt_same f g other = no_is_false (bytes_eq f g) (λ e. other ((bytes_eq-Decides f g).0 e))

module _ (s : Setting) (who : Who) (f : List ℕ) (m : Manifest Condition) where
  depends_by : (b c : Bool) (d : Dependency Condition) → bytes_eq f core ≡ b → bytes_eq f default ≡ c → Contains (cond b m.dependencies (cond c [] (dependencies_in (feature_of m f)))) d → IsTrueFor s who d.platform → Depends s who f m d
  depends_by true c d e k h applies = by_core ((bytes_eq-Decides f core).0 e) h applies
  depends_by false true d e k h applies = absurd (contains_nothing d h)
  depends_by false false d e k h applies = let r = feature_there (feature_of m f) d h in by_feature r.0 (differs_from f core e) (differs_from f default k) r.1 r.2 applies

  pub depends_is : (d : Dependency Condition) → Contains (applicable_of s who f m) d → Depends s who f m d
  depends_is d h =
      let r = contains_filter (λ (k : Dependency Condition). holds k.platform (marks_of s (triplet_of who))) (dependencies_of m f) d h in
      depends_by (bytes_eq f core) (bytes_eq f default) d refl refl r.0 r.1

  pub is_depends : (d : Dependency Condition) → Depends s who f m d → Contains (applicable_of s who f m) d
  is_depends d (by_core e h applies) =
      filter_contains (λ (k : Dependency Condition). holds k.platform (marks_of s (triplet_of who))) (dependencies_of m f) d
      (subst (λ b. Contains (cond b m.dependencies (cond (bytes_eq f default) [] (dependencies_in (feature_of m f)))) d) (sym (is_same f core e)) h) applies
  is_depends d (by_feature g not_core not_default found h applies) =
      filter_contains (λ (k : Dependency Condition). holds k.platform (marks_of s (triplet_of who))) (dependencies_of m f) d
      (subst (λ b. Contains (cond b m.dependencies (cond (bytes_eq f default) [] (dependencies_in (feature_of m f)))) d) (sym (isnt_same f core not_core))
      (subst (λ b. Contains (cond b [] (dependencies_in (feature_of m f))) d) (sym (isnt_same f default not_default)) (subst (λ o. Contains (dependencies_in o) d) (sym found) h))) applies

root_is : (name : Option (List ℕ)) (triplet : List ℕ) (j : Instance) → is_root name triplet j ≡ true → (name ≡ Some j.port) × (j.triplet ≡ triplet)
root_is None triplet j e = (cc)
root_is (Some name) triplet j e =
    let same : record { port = name; triplet = triplet } ≡ j = (same_instance-Decides (record { port = name; triplet = triplet }) j).0 e in
    (ap (λ (k : Instance). Some k.port) same, ap (λ (k : Instance). k.triplet) (sym same))

is_named_root : (name : Option (List ℕ)) (triplet : List ℕ) (j : Instance) → name ≡ Some j.port → j.triplet ≡ triplet → is_root name triplet j ≡ true
is_named_root None triplet j e h = (cc)
is_named_root (Some name) triplet j e h =
    let same : name ≡ j.port = (cc) in
    (same_instance-Decides (record { port = name; triplet = triplet }) j).1 (λ k. record { port = same k; triplet = sym h k })

own_is : (s : Setting) (who : Who) (d : Dependency Condition) → is_own s who (instance_of s who d) ≡ true → IsOnItself s who d
own_is s (root t) d e = let r = root_is s.root.name t (instance_of s (root t) d) e in is_the_root t refl r.0 r.1
own_is s (inst i) d e = is_instance i refl (sym ((same_instance-Decides i (instance_of s (inst i) d)).0 e))

is_own_is : (s : Setting) (who : Who) (d : Dependency Condition) → IsOnItself s who d → is_own s who (instance_of s who d) ≡ true
is_own_is s (root t) d (is_instance i e h) = (cc)
is_own_is s (root t) d (is_the_root u e name h) = let same : t ≡ u = (cc) in is_named_root s.root.name t (instance_of s (root t) d) name (h ∙ sym same)
is_own_is s (inst i) d (is_instance j e h) = let same : i ≡ j = (cc) in (same_instance-Decides i (instance_of s (inst i) d)).1 (same ∙ sym h)
is_own_is s (inst i) d (is_the_root t e name h) = (cc)

pub another_is : (s : Setting) (who : Who) (d : Dependency Condition) → is_own s who (instance_of s who d) ≡ false → IsOnAnother s who d
another_is s who d e itself = true_false (is_own s who (instance_of s who d)) (is_own_is s who d itself) e

pub is_another : (s : Setting) (who : Who) (d : Dependency Condition) → IsOnAnother s who d → is_own s who (instance_of s who d) ≡ false
is_another s who d other = no_is_false (is_own s who (instance_of s who d)) (λ e. other (own_is s who d e))

minimum_is : (p : List ℕ) (o : Option Ask) (x : Fact) → Contains (floor_of p o) x → (a : Ask) × (o ≡ Some a) × (floor p a ≡ x)
minimum_is p None x h = absurd (contains_nothing x h)
minimum_is p (Some a) x h = (a, refl, contains_single (floor p a) x h)

is_minimum : (p : List ℕ) (o : Option Ask) (a : Ask) → o ≡ Some a → Contains (floor_of p o) (floor p a)
is_minimum p None a e = (cc)
is_minimum p (Some b) a e = let same : b ≡ a = (cc) in subst (λ k. Contains (floor p b ∷ []) (floor p k)) same (contains_first (floor p b) [])

on_is : (s : Setting) (j : Instance) → is_off s j ≡ false → Contains s.off j → ⊥
on_is s j e h = true_false (is_off s j) (contains_any (same_instance j) s.off j h ((same_instance-Decides j j).1 refl)) e

is_on : (s : Setting) (j : Instance) → (Contains s.off j → ⊥) → is_off s j ≡ false
is_on s j on = no_is_false (is_off s j) (λ e. (let r = any_contains (same_instance j) s.off e in on (subst (Contains s.off) (sym ((same_instance-Decides j r.0).0 r.2)) r.1)))

module _ (s : Setting) (who : Who) (f : List ℕ) (m : Manifest Condition) where
  default_asks : (d : Dependency Condition) → Depends s who f m d → IsOnAnother s who d → (b : Bool) → is_off s (instance_of s who d) ≡ b → (x : Fact) → Contains (cond b [] (need (inst (instance_of s who d)) default ∷ [])) x → Asks s who f m x
  default_asks d depends other true e x h = absurd (contains_nothing x h)
  default_asks d depends other false e x h = subst (Asks s who f m) (contains_single (need (inst (instance_of s who d)) default) x h) (a_default d depends other (on_is s (instance_of s who d) e))

  other_asks : (d : Dependency Condition) → Depends s who f m d → IsOnAnother s who d → (x : Fact) → Contains (asked_of_other s (marks_of s (triplet_of who)) (instance_of s who d) d) x → Asks s who f m x
  other_asks d depends other x h =
      let j : Instance = instance_of s who d in
      let marks : Marks = marks_of s (triplet_of who) in
      let defaults : List Fact = cond (is_off s j) [] (need (inst j) default ∷ []) in
      let features : List Fact = map (need (inst j)) (names_of marks d.features) in
      elim (contains_cases (need (inst j) core) x (defaults ++ features ++ floor_of j.port d.minimum) h) [
        | inl same ↦ subst (Asks s who f m) same (a_core d depends other)
        | inr later ↦ elim (Contains-append_cases (defaults ++ features) (floor_of j.port d.minimum) x later) [
          | inl in_needs ↦ elim (Contains-append_cases defaults features x in_needs) [
            | inl in_defaults ↦ default_asks d depends other (is_off s j) refl x in_defaults
            | inr in_features ↦ (
                let r = contains_map (need (inst j)) (names_of marks d.features) x in_features in
                let u = names_are marks d.features r.0 r.1 in
                subst (Asks s who f m) (ap (need (inst j)) u.3 ∙ r.2) (a_feature d u.0 depends other u.1 u.2)
                )
          ]
          | inr in_floor ↦ (let r = minimum_is j.port d.minimum x in_floor in subst (Asks s who f m) r.2 (a_minimum d r.0 depends other r.1))
        ]
      ]

  own_features_ask : (d : Dependency Condition) → Depends s who f m d → IsOnItself s who d → (x : Fact) → Contains (map (need who) (names_of (marks_of s (triplet_of who)) d.features)) x → Asks s who f m x
  own_features_ask d depends itself x h =
      let r = contains_map (need who) (names_of (marks_of s (triplet_of who)) d.features) x h in
      let u = names_are (marks_of s (triplet_of who)) d.features r.0 r.1 in
      subst (Asks s who f m) (ap (need who) u.3 ∙ r.2) (own_feature d u.0 depends itself u.1 u.2)

own_asks : (s : Setting) (who : Who) (f : List ℕ) (m : Manifest Condition) (d : Dependency Condition) → Depends s who f m d → IsOnItself s who d → (x : Fact) → Contains (asked_of_own who (marks_of s (triplet_of who)) d) x → Asks s who f m x
own_asks s (root t) f m d depends itself x h = own_features_ask s (root t) f m d depends itself x h
own_asks s (inst i) f m d depends itself x h =
    elim (Contains-append_cases (map (need (inst i)) (names_of (marks_of s i.triplet) d.features)) (floor_of i.port d.minimum) x h) [
      | inl in_needs ↦ own_features_ask s (inst i) f m d depends itself x in_needs
      | inr in_floor ↦ (let r = minimum_is i.port d.minimum x in_floor in subst (Asks s (inst i) f m) r.2 (own_minimum d r.0 i depends itself refl r.1))
    ]

by_asks : (s : Setting) (who : Who) (f : List ℕ) (m : Manifest Condition) (d : Dependency Condition) → Depends s who f m d → (b : Bool) → is_own s who (instance_of s who d) ≡ b → (x : Fact)
    → Contains (cond b (asked_of_own who (marks_of s (triplet_of who)) d) (asked_of_other s (marks_of s (triplet_of who)) (instance_of s who d) d)) x → Asks s who f m x
by_asks s who f m d depends true e x h = own_asks s who f m d depends (own_is s who d e) x h
by_asks s who f m d depends false e x h = other_asks s who f m d depends (another_is s who d e) x h

default_is : (s : Setting) (who : Who) (f : List ℕ) (m : Manifest Condition) (b : Bool) → bytes_eq f default ≡ b → (g : List ℕ) → Contains (cond b (names_of (marks_of s (triplet_of who)) m.default_features) []) g → Asks s who f m (need who g)
default_is s who f m true e g h = let u = names_are (marks_of s (triplet_of who)) m.default_features g h in subst (λ k. Asks s who f m (need who k)) u.3 (a_default_feature u.0 ((bytes_eq-Decides f default).0 e) u.1 u.2)
default_is s who f m false e g h = absurd (contains_nothing g h)

asked_asks : (s : Setting) (who : Who) (f : List ℕ) (m : Manifest Condition) (x : Fact) → Contains (asked_of s who f m) x → Asks s who f m x
asked_asks s who f m x h =
    elim (Contains-append_cases (flat_map (asked_by s who) (applicable_of s who f m)) (map (need who) (defaults_of s who f m)) x h) [
      | inl by_dependency ↦ (let r = contains-flat_map (asked_by s who) (applicable_of s who f m) x by_dependency in by_asks s who f m r.0 (depends_is s who f m r.0 r.1) (is_own s who (instance_of s who r.0)) refl x r.2)
      | inr by_default ↦ (let r = contains_map (need who) (defaults_of s who f m) x by_default in subst (Asks s who f m) r.2 (default_is s who f m (bytes_eq f default) refl r.0 r.1))
    ]

module _ (s : Setting) (who : Who) (f : List ℕ) (m : Manifest Condition) where
  in_asked : (d : Dependency Condition) → Depends s who f m d → (x : Fact) → Contains (asked_by s who d) x → Contains (asked_of s who f m) x
  in_asked d depends x h = Contains-append_left (flat_map (asked_by s who) (applicable_of s who f m)) (map (need who) (defaults_of s who f m)) x (flat_map-contains (asked_by s who) (applicable_of s who f m) d x (is_depends s who f m d depends) h)

  by_other : (d : Dependency Condition) → IsOnAnother s who d → (x : Fact) → Contains (asked_of_other s (marks_of s (triplet_of who)) (instance_of s who d) d) x → Contains (asked_by s who d) x
  by_other d other x h = subst (λ b. Contains (cond b (asked_of_own who (marks_of s (triplet_of who)) d) (asked_of_other s (marks_of s (triplet_of who)) (instance_of s who d) d)) x) (sym (is_another s who d other)) h

  by_own : (d : Dependency Condition) → IsOnItself s who d → (x : Fact) → Contains (asked_of_own who (marks_of s (triplet_of who)) d) x → Contains (asked_by s who d) x
  by_own d itself x h = subst (λ b. Contains (cond b (asked_of_own who (marks_of s (triplet_of who)) d) (asked_of_other s (marks_of s (triplet_of who)) (instance_of s who d) d)) x) (sym (is_own_is s who d itself)) h

own_named : (who : Who) (marks : Marks) (d : Dependency Condition) (g : List ℕ) → Contains (names_of marks d.features) g → Contains (asked_of_own who marks d) (need who g)
own_named (root t) marks d g h = map_contains (need (root t)) (names_of marks d.features) g h
own_named (inst i) marks d g h = Contains-append_left (map (need (inst i)) (names_of marks d.features)) (floor_of i.port d.minimum) (need (inst i) g) (map_contains (need (inst i)) (names_of marks d.features) g h)

own_floored : (who : Who) (i : Instance) (marks : Marks) (d : Dependency Condition) (a : Ask) → who ≡ inst i → d.minimum ≡ Some a → Contains (asked_of_own who marks d) (floor i.port a)
own_floored (root t) i marks d a e h = (cc)
own_floored (inst j) i marks d a e h =
    let same : j ≡ i = (cc) in
    subst (λ (k : Instance). Contains (asked_of_own (inst j) marks d) (floor k.port a)) same
    (Contains-append_right (map (need (inst j)) (names_of marks d.features)) (floor_of j.port d.minimum) (floor j.port a) (is_minimum j.port d.minimum a h))

asks_asked : (s : Setting) (who : Who) (f : List ℕ) (m : Manifest Condition) (x : Fact) → Asks s who f m x → Contains (asked_of s who f m) x
asks_asked s who f m _ (a_core d depends other) =
    let j : Instance = instance_of s who d in
    let marks : Marks = marks_of s (triplet_of who) in
    in_asked s who f m d depends (need (inst j) core) (by_other s who f m d other (need (inst j) core)
    (contains_first (need (inst j) core) (cond (is_off s j) [] (need (inst j) default ∷ []) ++ map (need (inst j)) (names_of marks d.features) ++ floor_of j.port d.minimum)))
asks_asked s who f m _ (a_default d depends other on) =
    let j : Instance = instance_of s who d in
    let marks : Marks = marks_of s (triplet_of who) in
    let defaults : List Fact = cond (is_off s j) [] (need (inst j) default ∷ []) in
    let features : List Fact = map (need (inst j)) (names_of marks d.features) in
    let here : Contains defaults (need (inst j) default) = subst (λ b. Contains (cond b [] (need (inst j) default ∷ [])) (need (inst j) default)) (sym (is_on s j on)) (contains_first (need (inst j) default) []) in
    in_asked s who f m d depends (need (inst j) default) (by_other s who f m d other (need (inst j) default)
    (contains_later (need (inst j) core) (need (inst j) default) (defaults ++ features ++ floor_of j.port d.minimum)
    (Contains-append_left (defaults ++ features) (floor_of j.port d.minimum) (need (inst j) default) (Contains-append_left defaults features (need (inst j) default) here))))
asks_asked s who f m _ (a_feature d u depends other h applies) =
    let j : Instance = instance_of s who d in
    let marks : Marks = marks_of s (triplet_of who) in
    let defaults : List Fact = cond (is_off s j) [] (need (inst j) default ∷ []) in
    let features : List Fact = map (need (inst j)) (names_of marks d.features) in
    in_asked s who f m d depends (need (inst j) u.name) (by_other s who f m d other (need (inst j) u.name)
    (contains_later (need (inst j) core) (need (inst j) u.name) (defaults ++ features ++ floor_of j.port d.minimum)
    (Contains-append_left (defaults ++ features) (floor_of j.port d.minimum) (need (inst j) u.name) (Contains-append_right defaults features (need (inst j) u.name) (map_contains (need (inst j)) (names_of marks d.features) u.name (are_names marks d.features u h applies))))))
asks_asked s who f m _ (a_minimum d a depends other h) =
    let j : Instance = instance_of s who d in
    let marks : Marks = marks_of s (triplet_of who) in
    let defaults : List Fact = cond (is_off s j) [] (need (inst j) default ∷ []) in
    let features : List Fact = map (need (inst j)) (names_of marks d.features) in
    in_asked s who f m d depends (floor d.name a) (by_other s who f m d other (floor d.name a)
    (contains_later (need (inst j) core) (floor d.name a) (defaults ++ features ++ floor_of j.port d.minimum)
    (Contains-append_right (defaults ++ features) (floor_of j.port d.minimum) (floor d.name a) (is_minimum d.name d.minimum a h))))
asks_asked s who f m _ (own_feature d u depends itself h applies) =
    in_asked s who f m d depends (need who u.name) (by_own s who f m d itself (need who u.name) (own_named who (marks_of s (triplet_of who)) d u.name (are_names (marks_of s (triplet_of who)) d.features u h applies)))
asks_asked s who f m _ (own_minimum d a i depends itself is h) =
    in_asked s who f m d depends (floor i.port a) (by_own s who f m d itself (floor i.port a) (own_floored who i (marks_of s (triplet_of who)) d a is h))
asks_asked s who f m _ (a_default_feature u is h applies) =
    let listed : Contains (defaults_of s who f m) u.name = subst (λ b. Contains (cond b (names_of (marks_of s (triplet_of who)) m.default_features) []) u.name) (sym (is_same f default is)) (are_names (marks_of s (triplet_of who)) m.default_features u h applies) in
    Contains-append_right (flat_map (asked_by s who) (applicable_of s who f m)) (map (need who) (defaults_of s who f m)) (need who u.name) (map_contains (need who) (defaults_of s who f m) u.name listed)

pub asked_means : AskedMeans
asked_means s who f m x = (asked_asks s who f m x, asks_asked s who f m x)

-- what a step keeps
floor_kept : (inputs : Inputs) (y : Fact) (p : List ℕ) (a : Ask) (step : Step) (b : Bool) → is_pinned inputs.setting inputs.pages p ≡ b → Contains (cond b [] (record { fact = floor p a; cause = by_minimum y } ∷ [])) step → (floor p a ≡ step.fact) × IsKept inputs step.fact
floor_kept inputs y p a step true e h = absurd (contains_nothing step h)
floor_kept inputs y p a step false e h =
    let same : floor p a ≡ step.fact = ap (λ (k : Step). k.fact) (contains_single (record { fact = floor p a; cause = by_minimum y }) step h) in (
      same,
      λ q c is. (
          let ports : floor p a ≡ floor q c = same ∙ is in
          let port : p ≡ q = (cc) in
          subst (λ r. is_pinned inputs.setting inputs.pages r ≡ false) port e
          ),
    )

step_kept : (inputs : Inputs) (y x : Fact) (step : Step) → Contains (asked_step inputs y x) step → (x ≡ step.fact) × IsKept inputs step.fact
step_kept inputs y (need who f) step h =
    let same : need who f ≡ step.fact = ap (λ (k : Step). k.fact) (contains_single (record { fact = need who f; cause = by_one y }) step h) in
    (same, λ p a is. (let clash : need who f ≡ floor p a = same ∙ is in (cc)))
step_kept inputs y (floor p a) step h = floor_kept inputs y p a step (is_pinned inputs.setting inputs.pages p) refl h
step_kept inputs y (visit i f a) step h = absurd (contains_nothing step h)

-- and what is kept is a step
not_asked_visit : (s : Setting) (who : Who) (f : List ℕ) (m : Manifest Condition) (i : Instance) (g : List ℕ) (a : Ask) (x : Fact) → x ≡ visit i g a → Asks s who f m x → ⊥
not_asked_visit s who f m i g a _ e (a_core d depends other) = (cc)
not_asked_visit s who f m i g a _ e (a_default d depends other on) = (cc)
not_asked_visit s who f m i g a _ e (a_feature d u depends other h applies) = (cc)
not_asked_visit s who f m i g a _ e (a_minimum d b depends other h) = (cc)
not_asked_visit s who f m i g a _ e (own_feature d u depends itself h applies) = (cc)
not_asked_visit s who f m i g a _ e (own_minimum d b j depends itself is h) = (cc)
not_asked_visit s who f m i g a _ e (a_default_feature u is h applies) = (cc)

kept_step : (inputs : Inputs) (y x : Fact) → ((i : Instance) (f : List ℕ) (a : Ask) → x ≡ visit i f a → ⊥) → IsKept inputs x → (step : Step) × Contains (asked_step inputs y x) step × (step.fact ≡ x)
kept_step inputs y (need who f) no_visit kept = (record { fact = need who f; cause = by_one y }, contains_first (record { fact = need who f; cause = by_one y }) [], refl)
kept_step inputs y (floor p a) no_visit kept =
    let step : Step = record { fact = floor p a; cause = by_minimum y } in
    (step, subst (λ b. Contains (cond b [] (step ∷ [])) step) (sym (kept p a refl)) (contains_first step []), refl)
kept_step inputs y (visit i f a) no_visit kept = absurd (no_visit i f a refl)

-- the version of a floor may be visited exactly where the test says so
not_below_is : (inputs : Inputs) (given found : Option (Row Condition)) → is_not_below inputs given found ≡ true → (g r : Row Condition) × (given ≡ Some g) × (found ≡ Some r) × (inputs.at_most r.version g.version ≡ true → r.version ≡ g.version)
not_below_is inputs None found e = (cc)
not_below_is inputs (Some g) None e = (cc)
not_below_is inputs (Some g) (Some r) e = (g, r, refl, refl, λ most. by most (true_or_false (same_version r.version g.version)))
  where
    by : inputs.at_most r.version g.version ≡ true → (same_version r.version g.version ≡ true) ⊎ (same_version r.version g.version ≡ false) → r.version ≡ g.version
    by most (inl same) = (version_decides r.version g.version).0 same
    by most (inr other) = absurd (true_false (is_below inputs r.version g.version) (and_true (inputs.at_most r.version g.version) (not (same_version r.version g.version)) most (not_false _ other)) (not_true (is_below inputs r.version g.version) e))

is_not_below_is : (inputs : Inputs) (g r : Row Condition) → (inputs.at_most r.version g.version ≡ true → r.version ≡ g.version) → not (is_below inputs r.version g.version) ≡ true
is_not_below_is inputs g r same = not_false _ (no_is_false (is_below inputs r.version g.version) (λ below. (
    let parts = both_true (inputs.at_most r.version g.version) (not (same_version r.version g.version)) below in
    true_false (same_version r.version g.version) (subst (λ k. same_version r.version k ≡ true) (same parts.0) ((version_decides r.version r.version).1 refl)) (not_true _ parts.1)
    )))

some_is : {X : Type 0} (o : Option X) → is_some o ≡ true → (x : X) × (o ≡ Some x)
some_is None e = (cc)
some_is (Some x) e = (x, refl)

pub may_visit : (inputs : Inputs) (p : List ℕ) (a : Ask) (given : Result Given Wrong) → (inputs.pages p).given ≡ given → is_visited_by inputs (inputs.pages p).rows a given ≡ true → MayVisit inputs p a
may_visit inputs p a (Ok (overlay v)) e h = of_overlay v e (asks_equal a (ask_of v) h)
may_visit inputs p a (Ok (override b)) e h =
    let parts = both_true (same_ask a b) (is_some (row_in (inputs.pages p).rows a)) h in
    let same : a ≡ b = asks_equal a b parts.0 in
    let r = some_is (row_in (inputs.pages p).rows a) parts.1 in
    of_override r.0 (e ∙ ap (λ k. Ok (override k)) (sym same)) r.1
may_visit inputs p a (Ok (baseline b)) e h = let r = not_below_is inputs (row_in (inputs.pages p).rows b) (row_in (inputs.pages p).rows a) h in of_baseline b r.0 r.1 e r.2 r.3 r.4
may_visit inputs p a (Err wrong) e h = (cc)

pub visits_may : (inputs : Inputs) (p : List ℕ) (a : Ask) → MayVisit inputs p a → is_visited inputs p a ≡ true
visits_may inputs p a (of_overlay v e same) = ap (is_visited_by inputs (inputs.pages p).rows a) e ∙ subst (λ k. same_ask a k ≡ true) same (ask_itself a)
visits_may inputs p a (of_override r e found) = ap (is_visited_by inputs (inputs.pages p).rows a) e ∙ and_true (same_ask a a) (is_some (row_in (inputs.pages p).rows a)) (ask_itself a) (ap is_some found)
visits_may inputs p a (of_baseline b g r e given found same) =
    ap (is_visited_by inputs (inputs.pages p).rows a) e ∙ ap (λ o. is_not_below inputs o (row_in (inputs.pages p).rows a)) given ∙ ap (is_not_below inputs (Some g)) found ∙ is_not_below_is inputs g r same

module _ (inputs : Inputs) (facts : List Fact) where
  given_requires : (i : Instance) (f : List ℕ) → Contains facts (need (inst i) f) → (given : Result Given Wrong) → (inputs.pages i.port).given ≡ given → (step : Step) → Contains (given_step (need (inst i) f) i.port given) step → Requires inputs facts step.fact
  given_requires i f h (Ok (overlay v)) e step at = subst (λ (k : Step). Requires inputs facts k.fact) (contains_single (record { fact = floor i.port (ask_of v); cause = by_overlay (need (inst i) f) }) step at) (given_floor i f (overlay v) h e)
  given_requires i f h (Ok (override a)) e step at = subst (λ (k : Step). Requires inputs facts k.fact) (contains_single (record { fact = floor i.port a; cause = by_override (need (inst i) f) }) step at) (given_floor i f (override a) h e)
  given_requires i f h (Ok (baseline a)) e step at = subst (λ (k : Step). Requires inputs facts k.fact) (contains_single (record { fact = floor i.port a; cause = by_baseline (need (inst i) f) }) step at) (given_floor i f (baseline a) h e)
  given_requires i f h (Err wrong) e step at = absurd (contains_nothing step at)

  visit_requires : (i : Instance) (f : List ℕ) (a : Ask) → Contains facts (visit i f a) → (manifest : Option (Result (Manifest Condition) Wrong)) → manifest_at inputs.pages i.port a ≡ manifest → (step : Step)
      → Contains (flat_map (asked_step inputs (visit i f a)) (asked_in inputs.setting i f manifest)) step → Requires inputs facts step.fact
  visit_requires i f a h None e step at = absurd (contains_nothing step at)
  visit_requires i f a h (Some (Err wrong)) e step at = absurd (contains_nothing step at)
  visit_requires i f a h (Some (Ok m)) e step at =
      let r = contains-flat_map (asked_step inputs (visit i f a)) (asked_of inputs.setting (inst i) f m) step at in
      let kept = step_kept inputs (visit i f a) r.0 step r.2 in
      asked_by_visit i f a m step.fact h e (subst (Asks inputs.setting (inst i) f m) kept.0 (asked_asks inputs.setting (inst i) f m r.0 r.1)) kept.1

  step_requires : (y : Fact) → Contains facts y → (step : Step) → Contains (steps_from inputs y) step → Requires inputs facts step.fact
  step_requires (need (root t) f) h step at =
      let r = contains-flat_map (asked_step inputs (need (root t) f)) (asked_of inputs.setting (root t) f inputs.setting.root) step at in
      let kept = step_kept inputs (need (root t) f) r.0 step r.2 in
      asked_by_root t f step.fact h (subst (Asks inputs.setting (root t) f inputs.setting.root) kept.0 (asked_asks inputs.setting (root t) f inputs.setting.root r.0 r.1)) kept.1
  step_requires (need (inst i) f) h step at = given_requires i f h (inputs.pages i.port).given refl step at
  step_requires (floor p a) h step at = absurd (contains_nothing step at)
  step_requires (visit i f a) h step at = visit_requires i f a h (manifest_at inputs.pages i.port a) refl step at

  follows_requires : (x : Fact) → FollowsFrom (rules_of inputs) (Contains facts) x → Requires inputs facts x
  follows_requires x (from_one y h asked) =
      let r = contains_map (λ (st : Step). st.fact) (steps_from inputs y) x asked in
      subst (Requires inputs facts) r.2 (step_requires y h r.0 r.1)
  follows_requires x (from_two y z one two asked) =
      let v = visits_are inputs y z x asked in
      subst (Requires inputs facts) (sym v.is_visit)
      (a_visit v.i v.f v.v (subst (Contains facts) v.is_need one) (subst (Contains facts) v.is_floor two) (may_visit inputs v.i.port v.v (inputs.pages v.i.port).given refl v.visited))

  asked_follows : (y : Fact) (asked : List Fact) (x : Fact) → Contains facts y → steps_from inputs y ≡ flat_map (asked_step inputs y) asked → Contains asked x → ((i : Instance) (f : List ℕ) (a : Ask) → x ≡ visit i f a → ⊥) → IsKept inputs x → FollowsFrom (rules_of inputs) (Contains facts) x
  asked_follows y asked x h steps at no_visit kept =
      let r = kept_step inputs y x no_visit kept in
      from_one y h (subst (Contains (map (λ (st : Step). st.fact) (steps_from inputs y))) r.2
      (map_contains (λ (st : Step). st.fact) (steps_from inputs y) r.0 (subst (λ l. Contains l r.0) (sym steps) (flat_map-contains (asked_step inputs y) asked x r.0 at r.1))))

  requires_follows : (x : Fact) → Requires inputs facts x → FollowsFrom (rules_of inputs) (Contains facts) x
  requires_follows _ (given_floor i f g h e) =
      let r = given_fact (need (inst i) f) i.port (inputs.pages i.port).given g e in
      from_one (need (inst i) f) h (subst (Contains (map (λ (st : Step). st.fact) (steps_from inputs (need (inst i) f)))) r.2 (map_contains (λ (st : Step). st.fact) (steps_from inputs (need (inst i) f)) r.0 r.1))
  requires_follows _ (a_visit i f a one two may) =
      from_two (need (inst i) f) (floor i.port a) one two
      (subst (λ b. Contains (cond b (visit i f a ∷ []) []) (visit i f a)) (sym (and_true (bytes_eq i.port i.port) (is_visited inputs i.port a) (is_same i.port i.port refl) (visits_may inputs i.port a may))) (contains_first (visit i f a) []))
  requires_follows _ (asked_by_visit i f a m x h e asks kept) =
      asked_follows (visit i f a) (asked_of inputs.setting (inst i) f m) x h (ap (λ o. flat_map (asked_step inputs (visit i f a)) (asked_in inputs.setting i f o)) e) (asks_asked inputs.setting (inst i) f m x asks)
      (λ j g b is. not_asked_visit inputs.setting (inst i) f m j g b x is asks) kept
  requires_follows _ (asked_by_root t f x h asks kept) =
      asked_follows (need (root t) f) (asked_of inputs.setting (root t) f inputs.setting.root) x h refl (asks_asked inputs.setting (root t) f inputs.setting.root x asks)
      (λ j g b is. not_asked_visit inputs.setting (root t) f inputs.setting.root j g b x is asks) kept

pub rules_mean : RulesMean
rules_mean inputs facts x = (follows_requires inputs facts x, requires_follows inputs facts x)
