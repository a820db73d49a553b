-- The instances that a root names, and those that are off.
use Rattle.std.proofs.Common.{◌≡◌, ◌↔◌, ◌&&◌, not, ℕ, Bool, true, false, cond, List, [], ◌∷◌, ◌++◌, map, filter, flat_map, refl, ap, sym, ◌∙◌, subst}
use Rattle.std.specs.List.{Contains, list_all}
use Rattle.vk_spec.specs.Conditions.{Condition, holds}
use Rattle.vk_spec.specs.Manifests.{Dependency}
use Rattle.vk_spec.specs.Settings.{Setting}
use Rattle.vk_spec.specs.Settings as plain
use Rattle.vk_spec.proofs.ListLemmas.{contains-flat_map, flat_map-contains}
use Rattle.vk_resolution.specs.Keys.{Ascends, IsListing}
use Rattle.vk_resolution.specs.Least.{IsLeast}
use Rattle.vk_resolution.specs.Planning.{instance_key}
use Rattle.vk_resolution.specs.Settings.{Marks, root, marks_of, same_instance, dependencies_of, applicable_of, root_rules_of, IsOff, ListsOff}
use Rattle.vk_resolution.specs.Computed.{named_by, off_by}
use Rattle.vk_resolution.proofs.Members.{both_true, not_true, not_false, no_is_false, true_false, contains_filter, filter_contains, contains_map, map_contains, any_contains, contains_any, all_contains, contains_all}
use Rattle.vk_resolution.proofs.FactLemmas.{same_instance-Decides}
use Rattle.vk_resolution.proofs.OffLists.{off_is, is_in_off}
use Rattle.vk_base.specs.declared.instances.Instance.{Instance}
use Rattle.vk_expr.specs.Views.{condition_of}
use Rattle.vk_model.specs.SettingViews.{instance_view}
use Rattle.vk_model.specs.Views.{dependency_view}
use Rattle.vk_model.specs.declared.manifests.Dependency as code
use Rattle.vk_root.specs.Roots.{at_root, is_on_root}
use Rattle.vk_root.specs.Offs.{is_same, has_instance, AreOff}
use Rattle.vk_root.specs.NamedInstances.{instances_view, counts, named_each, named_in, named_of}

module _ {X : Type 0} (test : X → Bool) (x : X) (xs : List X) where
  keeps_first : test x ≡ true → filter test (x ∷ xs) ≡ x ∷ filter test xs
  keeps_first e = ap (λ b. cond b (x ∷ filter test xs) (filter test xs)) e

  skips_first : test x ≡ false → filter test (x ∷ xs) ≡ filter test xs
  skips_first e = ap (λ b. cond b (x ∷ filter test xs) (filter test xs)) e

-- ---- what a feature names, as its dependencies were gone through

module _ (s : Setting) (marks : Marks) (only : Bool) where
  named_step : (d : Dependency Condition) (ds : List (Dependency Condition)) (rest : List plain.Instance) (a b c : Bool) → not (is_on_root s d) ≡ b → counts only d ≡ c
      → rest ≡ map (at_root s) (filter (counts only) (filter (λ e. not (is_on_root s e)) ds))
      → cond ((a && b) && c) (at_root s d ∷ []) [] ++ rest ≡ map (at_root s) (filter (counts only) (filter (λ e. not (is_on_root s e)) (cond a (d ∷ ds) ds)))
  named_step d ds rest false b c other count e = e
  named_step d ds rest true false c other count e = e ∙ sym (ap (λ l. map (at_root s) (filter (counts only) l)) (skips_first (λ e. not (is_on_root s e)) d ds other))
  named_step d ds rest true true false other count e =
      e ∙ sym (ap (map (at_root s)) (ap (filter (counts only)) (keeps_first (λ e. not (is_on_root s e)) d ds other) ∙ skips_first (counts only) d (filter (λ e. not (is_on_root s e)) ds) count))
  named_step d ds rest true true true other count e =
      ap (λ l. at_root s d ∷ l) e
      ∙ sym (ap (map (at_root s)) (ap (filter (counts only)) (keeps_first (λ e. not (is_on_root s e)) d ds other) ∙ keeps_first (counts only) d (filter (λ e. not (is_on_root s e)) ds) count))

  named_so : (ds : List code.Dependency) → named_each s marks only ds ≡ map (at_root s) (filter (counts only) (filter (λ e. not (is_on_root s e)) (filter (λ d. holds d.platform marks) (map dependency_view ds))))
  named_so [] = refl
  named_so (d ∷ ds) =
      named_step (dependency_view d) (filter (λ e. holds e.platform marks) (map dependency_view ds)) (named_each s marks only ds) (holds (condition_of d.platform) marks) (not (is_on_root s (dependency_view d))) (counts only (dependency_view d)) refl refl (named_so ds)

  pub named_made : (f : List ℕ) (ds : List code.Dependency) → marks ≡ marks_of s s.target.name → map dependency_view ds ≡ dependencies_of s.root f → named_each s marks only ds ≡ named_in s only f
  named_made f ds at listed =
      named_so ds
      ∙ ap (λ m. map (at_root s) (filter (counts only) (filter (λ e. not (is_on_root s e)) (filter (λ d. holds d.platform m) (map dependency_view ds))))) at
      ∙ ap (λ l. map (at_root s) (filter (counts only) (filter (λ e. not (is_on_root s e)) (filter (λ d. holds d.platform (marks_of s s.target.name)) l)))) listed

-- ---- which are named

module _ (s : Setting) (features : List (List ℕ)) where
  named_has : (only : Bool) (j : plain.Instance) → Contains (named_of s only features) j → (d : Dependency Condition) × Contains (named_by s features) d × (at_root s d ≡ j) × (counts only d ≡ true)
  named_has only j h =
      let r = contains-flat_map (named_in s only) features j h in
      let q = contains_map (at_root s) (filter (counts only) (filter (λ d. not (is_on_root s d)) (applicable_of s (root s.target.name) r.0 s.root))) j r.2 in
      let c = contains_filter (counts only) (filter (λ d. not (is_on_root s d)) (applicable_of s (root s.target.name) r.0 s.root)) q.0 q.1 in
      let o = contains_filter (λ d. not (is_on_root s d)) (applicable_of s (root s.target.name) r.0 s.root) q.0 c.0 in
      (q.0, filter_contains (λ d. not (is_on_root s d)) (flat_map (λ f. applicable_of s (root s.target.name) f s.root) features) q.0 (flat_map-contains (λ f. applicable_of s (root s.target.name) f s.root) features r.0 q.0 r.1 o.0) o.1, q.2, c.1)

  has_named : (only : Bool) (d : Dependency Condition) → Contains (named_by s features) d → counts only d ≡ true → Contains (named_of s only features) (at_root s d)
  has_named only d h count =
      let o = contains_filter (λ d. not (is_on_root s d)) (flat_map (λ f. applicable_of s (root s.target.name) f s.root) features) d h in
      let r = contains-flat_map (λ f. applicable_of s (root s.target.name) f s.root) features d o.0 in
      flat_map-contains (named_in s only) features r.0 (at_root s d) r.1
      (map_contains (at_root s) (filter (counts only) (filter (λ d. not (is_on_root s d)) (applicable_of s (root s.target.name) r.0 s.root))) d
      (filter_contains (counts only) (filter (λ d. not (is_on_root s d)) (applicable_of s (root s.target.name) r.0 s.root)) d
      (filter_contains (λ d. not (is_on_root s d)) (applicable_of s (root s.target.name) r.0 s.root) d r.2 o.1) count))

-- ---- which are off

module _ (s : Setting) (features : List (List ℕ)) (named wanted keys : List Instance)
    (all : instances_view named ≡ named_of s false features) (some : instances_view wanted ≡ named_of s true features) (same : AreOff wanted keys) where
  -- an instance that is named with its default features is in the set, and no other
  in_set : (i : Instance) (d : Dependency Condition) → Contains (named_by s features) d → at_root s d ≡ instance_view i → d.defaults ≡ true → has_instance keys i ≡ true
  in_set i d h at defaults =
      let held = contains_map instance_view wanted (instance_view i) (subst (λ l. Contains l (instance_view i)) (sym some) (subst (Contains (named_of s true features)) at (has_named s features true d h defaults))) in
      same i ∙ contains_any (is_same i) wanted held.0 held.1 ((same_instance-Decides (instance_view i) (instance_view held.0)).1 (sym held.2))

  from_set : (i : Instance) → has_instance keys i ≡ true → (d : Dependency Condition) × Contains (named_by s features) d × (at_root s d ≡ instance_view i) × (d.defaults ≡ true)
  from_set i e =
      let held = any_contains (is_same i) wanted (sym (same i) ∙ e) in
      let view : instance_view i ≡ instance_view held.0 = (same_instance-Decides (instance_view i) (instance_view held.0)).0 held.2 in
      named_has s features true (instance_view i) (subst (λ l. Contains l (instance_view i)) some (subst (Contains (instances_view wanted)) (sym view) (map_contains instance_view wanted held.0 held.1)))

  is_off_by : (i : Instance) → Contains (filter (λ k. not (has_instance keys k)) named) i → Contains (off_by s features) (instance_view i)
  is_off_by i h =
      let r = contains_filter (λ k. not (has_instance keys k)) named i h in
      let d = named_has s features false (instance_view i) (subst (λ l. Contains l (instance_view i)) all (map_contains instance_view named i r.0)) in
      filter_contains (λ j. list_all (λ e. not (same_instance (at_root s e) j && e.defaults)) (named_by s features)) (map (at_root s) (named_by s features)) (instance_view i)
      (subst (Contains (map (at_root s) (named_by s features))) d.2 (map_contains (at_root s) (named_by s features) d.0 d.1))
      (contains_all (λ e. not (same_instance (at_root s e) (instance_view i) && e.defaults)) (named_by s features) (λ e at. not_false _ (no_is_false _ (λ both. (
      let parts = both_true (same_instance (at_root s e) (instance_view i)) e.defaults both in
      true_false (has_instance keys i) (in_set i e at ((same_instance-Decides (at_root s e) (instance_view i)).0 parts.0) parts.1) (not_true _ r.1)
      )))))

  off_by_is : (j : plain.Instance) → Contains (off_by s features) j → (i : Instance) × Contains (filter (λ k. not (has_instance keys k)) named) i × (instance_view i ≡ j)
  off_by_is j h =
      let r = contains_filter (λ j. list_all (λ e. not (same_instance (at_root s e) j && e.defaults)) (named_by s features)) (map (at_root s) (named_by s features)) j h in
      let d = contains_map (at_root s) (named_by s features) j r.0 in
      let i = contains_map instance_view named j (subst (λ l. Contains l j) (sym all) (subst (Contains (named_of s false features)) d.2 (has_named s features false d.0 d.1 refl))) in (
        i.0,
        filter_contains (λ k. not (has_instance keys k)) named i.0 i.1 (not_false _ (no_is_false _ (λ held. (
            let e = from_set i.0 held in
            let named_so : same_instance (at_root s e.0) j ≡ true = (same_instance-Decides (at_root s e.0) j).1 (e.2 ∙ i.2) in
            let passes = all_contains (λ e. not (same_instance (at_root s e) j && e.defaults)) (named_by s features) r.1 e.0 e.1 in
            true_false (same_instance (at_root s e.0) j && e.0.defaults) (ap (λ b. b && e.0.defaults) named_so ∙ e.3) (not_true _ passes)
            )))),
        i.2,
      )

  pub off_listing : IsLeast (root_rules_of s) features → (off : List Instance) → Ascends instance_key (instances_view off)
      → ((i : Instance) → Contains off i ↔ Contains (filter (λ k. not (has_instance keys k)) named) i) → IsListing instance_key (IsOff s) (instances_view off)
  off_listing least off order each = record {
    each = λ j. (
      (λ h. (
          let i = contains_map instance_view off j h in
          subst (IsOff s) i.2 (off_is s features least (instance_view i.0) (is_off_by i.0 ((each i.0).0 i.1)))
          )),
      (λ is. (
          let i = off_by_is j (is_in_off s features least j is) in
          subst (Contains (instances_view off)) i.2 (map_contains instance_view off i.0 ((each i.0).1 i.1))
          )),
    );
    ascends = order;
  }

-- a setting whose off list lists what is off lists exactly that
pub listing_lists : (s : Setting) → IsListing instance_key (IsOff s) s.off → ListsOff s
listing_lists s listing j = listing.each j
