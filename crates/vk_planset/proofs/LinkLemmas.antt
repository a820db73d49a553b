-- The edges between planned needs are those between instances.
use Rattle.std.proofs.Common.{◌≡◌, ◌⊎◌, ◌++◌, ℕ, Bool, true, false, cond, List, [], ◌∷◌, map, filter, inl, inr, refl, sym, ◌∙◌, subst}
use Rattle.std.specs.Prelude.{Option, Some, None, Result, Ok, Err, flat_map}
use Rattle.std.specs.List.{Contains}
use Rattle.std.proofs.lemmas.List.Elements.{Contains-append_left, Contains-append_cases}
use Rattle.vk_spec.specs.Versions.{Version, Ask, ask_of}
use Rattle.vk_spec.specs.Manifests.{Manifest, Dependency, core, default}
use Rattle.vk_spec.specs.Pages.{Wrong}
use Rattle.vk_spec.specs.Conditions.{Condition}
use Rattle.vk_spec.specs.Settings.{Instance, Setting}
use Rattle.vk_spec.proofs.ListLemmas.{contains_nothing, contains_first, contains_cases, contains-flat_map, flat_map-contains}
use Rattle.vk_resolution.specs.Least.{FollowsFrom, from_one, from_two}
use Rattle.vk_resolution.specs.Settings.{Marks, root, inst, same_instance, instance_of, is_own, is_off, applicable_of, marks_of, names_of, defaults_of, first_features_of}
use Rattle.vk_resolution.specs.Givens.{manifest_at}
use Rattle.vk_resolution.specs.Asking.{Fact, need, floor, visit, fact_key, floor_of, asked_of_own, asked_of_other, asked_by, asked_of, root_facts_of}
use Rattle.vk_resolution.specs.Consequences.{Inputs, asked_in, asked_at}
use Rattle.vk_resolution.specs.Choices.{chosen_of}
use Rattle.vk_resolution.specs.Planning.{is_need, visit_of, planned_from, planned_rules_of, IsPlanned, targets_of}
use Rattle.vk_resolution.proofs.Members.{contains_single, contains_map, contains_filter, filter_contains, no_is_false}
use Rattle.vk_resolution.proofs.FactLemmas.{fact_key-IsKey, same_instance-Decides}
use Rattle.vk_resolution.proofs.AgreementLemmas.{least_follows}
use Rattle.vk_resolution.proofs.SentenceLemmas.{depends_is, is_depends}
use Rattle.vk_resolution.proofs.EdgeLemmas.{edges_mean}
use Rattle.vk_planned.specs.Graphs.{asked_by_need}

-- ---- what asks for another instance

no_floor : (p : List ℕ) (o : Option Ask) (j : Instance) (g : List ℕ) → Contains (floor_of p o) (need (inst j) g) → ⊥
no_floor p None j g h = contains_nothing (need (inst j) g) h
no_floor p (Some a) j g h = let clash : floor p a ≡ need (inst j) g = contains_single (floor p a) (need (inst j) g) h in (cc)

needed_is : (k : Instance) (fs : List (List ℕ)) (j : Instance) (g : List ℕ) → Contains (map (need (inst k)) fs) (need (inst j) g) → k ≡ j
needed_is k fs j g h = let r = contains_map (need (inst k)) fs (need (inst j) g) h in let same : need (inst k) r.0 ≡ need (inst j) g = r.2 in (cc)

own_asks : (i : Instance) (marks : Marks) (d : Dependency Condition) (j : Instance) (g : List ℕ) → Contains (asked_of_own (inst i) marks d) (need (inst j) g) → i ≡ j
own_asks i marks d j g h = elim (Contains-append_cases (map (need (inst i)) (names_of marks d.features)) (floor_of i.port d.minimum) (need (inst j) g) h) [
  | inl named ↦ needed_is i (names_of marks d.features) j g named
  | inr floored ↦ absurd (no_floor i.port d.minimum j g floored)
]

default_is : (k : Instance) (b : Bool) (j : Instance) (g : List ℕ) → Contains (cond b [] (need (inst k) default ∷ [])) (need (inst j) g) → k ≡ j
default_is k true j g h = absurd (contains_nothing (need (inst j) g) h)
default_is k false j g h = let same : need (inst k) default ≡ need (inst j) g = contains_single (need (inst k) default) (need (inst j) g) h in (cc)

core_is : (k j : Instance) (g : List ℕ) → need (inst k) core ≡ need (inst j) g → k ≡ j
core_is k j g same = (cc)

other_asks : (s : Setting) (marks : Marks) (k : Instance) (d : Dependency Condition) (j : Instance) (g : List ℕ) → Contains (asked_of_other s marks k d) (need (inst j) g) → k ≡ j
other_asks s marks k d j g h =
    let off : List Fact = cond (is_off s k) [] (need (inst k) default ∷ []) in
    let named : List Fact = map (need (inst k)) (names_of marks d.features) in
    elim (Contains-append_cases (need (inst k) core ∷ off ++ named) (floor_of k.port d.minimum) (need (inst j) g) h) [
      | inr floored ↦ absurd (no_floor k.port d.minimum j g floored)
      | inl front ↦ elim (Contains-append_cases (need (inst k) core ∷ off) named (need (inst j) g) front) [
        | inr by_name ↦ needed_is k (names_of marks d.features) j g by_name
        | inl first ↦ elim (contains_cases (need (inst k) core) (need (inst j) g) off first) [
          | inl same ↦ core_is k j g same
          | inr later ↦ default_is k (is_off s k) j g later
        ]
      ]
    ]

asks_by : (s : Setting) (i : Instance) (d : Dependency Condition) (b : Bool) (j : Instance) (g : List ℕ) → (i ≡ j → ⊥)
    → Contains (cond b (asked_of_own (inst i) (marks_of s i.triplet) d) (asked_of_other s (marks_of s i.triplet) (instance_of s (inst i) d) d)) (need (inst j) g) → instance_of s (inst i) d ≡ j
asks_by s i d true j g other h = absurd (other (own_asks i (marks_of s i.triplet) d j g h))
asks_by s i d false j g other h = other_asks s (marks_of s i.triplet) (instance_of s (inst i) d) d j g h

module _ (inputs : Inputs) (facts planned : List Fact) (is_planned : IsPlanned inputs facts planned) where
  abbrev s : Setting
  s = inputs.setting

  edge_by : (i : Instance) (f : List ℕ) (a : Ask) (j : Instance) (g : List ℕ) → (i ≡ j → ⊥) → Contains planned (visit i f a) → (manifest : Option (Result (Manifest Condition) Wrong)) → manifest_at inputs.pages i.port a ≡ manifest
      → Contains (asked_in s i f manifest) (need (inst j) g) → Contains (targets_of inputs planned i) j
  edge_by i f a j g other visited None e h = absurd (contains_nothing (need (inst j) g) h)
  edge_by i f a j g other visited (Some (Err wrong)) e h = absurd (contains_nothing (need (inst j) g) h)
  edge_by i f a j g other visited (Some (Ok m)) e h =
      elim (Contains-append_cases (flat_map (asked_by s (inst i)) (applicable_of s (inst i) f m)) (map (need (inst i)) (defaults_of s (inst i) f m)) (need (inst j) g) h) [
        | inr own ↦ absurd (other (needed_is i (defaults_of s (inst i) f m) j g own))
        | inl asked ↦ (
            let r = contains-flat_map (asked_by s (inst i)) (applicable_of s (inst i) f m) (need (inst j) g) asked in
            let leads : instance_of s (inst i) r.0 ≡ j = asks_by s i r.0 (is_own s (inst i) (instance_of s (inst i) r.0)) j g other r.2 in
            (edges_mean inputs planned i j).1 (record { f = f; a = a; visited = visited; m = m; manifest = e; d = r.0; depends = depends_is s (inst i) f m r.0 r.1; leads = leads; other = λ same. other (sym same) })
            )
      ]

  visit_by : (i : Instance) (f : List ℕ) (o : Option Version) (v : Fact) → Contains (visit_of i f o) v → (a : Ask) × (v ≡ visit i f a)
  visit_by i f None v h = absurd (contains_nothing v h)
  visit_by i f (Some w) v h = (ask_of w, sym (contains_single (visit i f (ask_of w)) v h))

  -- what a need of one instance asks of another is an edge
  pub asked_target : (i : Instance) (f : List ℕ) (j : Instance) (g : List ℕ) → (i ≡ j → ⊥) → Contains planned (need (inst i) f) → Contains (asked_by_need inputs facts (need (inst i) f)) (need (inst j) g) → Contains (targets_of inputs planned i) j
  asked_target i f j g other h at =
      let r = contains-flat_map (planned_from inputs facts) (planned_from inputs facts (need (inst i) f)) (need (inst j) g) at in
      let v = visit_by i f (chosen_of inputs facts i.port) r.0 r.1 in
      let visited : Contains planned (visit i f v.0) = subst (Contains planned) v.1 (is_planned.closed.steps r.0 (from_one (need (inst i) f) h r.1)) in
      let asked : Contains (filter is_need (asked_at inputs i f v.0)) (need (inst j) g) = subst (λ w. Contains (planned_from inputs facts w) (need (inst j) g)) v.1 r.2 in
      edge_by i f v.0 j g other visited (manifest_at inputs.pages i.port v.0) refl (contains_filter is_need (asked_at inputs i f v.0) (need (inst j) g) asked).0

  -- ---- and the other way round

  pub record Visits (i : Instance) (f : List ℕ) (a : Ask) : Type 0 where
    pub needed : Contains planned (need (inst i) f)
    pub visits : Contains (planned_from inputs facts (need (inst i) f)) (visit i f a)

  visits_in : (j : Instance) (g : List ℕ) (i : Instance) (f : List ℕ) (a : Ask) → Contains planned (need (inst j) g) → Contains (visit_of j g (chosen_of inputs facts j.port)) (visit i f a) → Visits i f a
  visits_in j g i f a h at =
      let v = visit_by j g (chosen_of inputs facts j.port) (visit i f a) at in
      let same : visit i f a ≡ visit j g v.0 = v.1 in
      let instance : j ≡ i = (cc) in
      let feature : g ≡ f = (cc) in
      let moved : need (inst j) g ≡ need (inst i) f = (cc) in
      record { needed = subst (Contains planned) moved h; visits = subst (λ x. Contains (planned_from inputs facts x) (visit i f a)) moved at }

  no_visit : (asked : List Fact) (i : Instance) (f : List ℕ) (a : Ask) → Contains (filter is_need asked) (visit i f a) → ⊥
  no_visit asked i f a at = let clash : false ≡ true = (contains_filter is_need asked (visit i f a) at).1 in (cc)

  visits_from : (y : Fact) → Contains planned y → (i : Instance) (f : List ℕ) (a : Ask) → Contains (planned_from inputs facts y) (visit i f a) → Visits i f a
  visits_from (need (root t) g) h i f a at = absurd (no_visit (asked_of s (root t) g s.root) i f a at)
  visits_from (need (inst j) g) h i f a at = visits_in j g i f a h at
  visits_from (floor p b) h i f a at = absurd (contains_nothing (visit i f a) at)
  visits_from (visit j g b) h i f a at = absurd (no_visit (asked_at inputs j g b) i f a at)

  visits_of : (i : Instance) (f : List ℕ) (a : Ask) → Contains (root_facts_of inputs.setting) (visit i f a) ⊎ FollowsFrom (planned_rules_of inputs facts) (Contains planned) (visit i f a) → Visits i f a
  visits_of i f a (inl is_root) = let r = contains_map (need (root s.target.name)) (first_features_of s) (visit i f a) is_root in let clash : need (root s.target.name) r.0 ≡ visit i f a = r.2 in (cc)
  visits_of i f a (inr (from_one y holds at)) = visits_from y holds i f a at
  visits_of i f a (inr (from_two y z one two at)) = absurd (contains_nothing (visit i f a) at)

  -- an edge is what a need of the one asks of the other
  pub record AsksFor (i j : Instance) : Type 0 where
    pub feature : List ℕ
    pub needed : Contains planned (need (inst i) feature)
    pub asked : Contains (asked_by_need inputs facts (need (inst i) feature)) (need (inst j) core)
    pub other : i ≡ j → ⊥

  pub target_asked : (i j : Instance) → Contains (targets_of inputs planned i) j → AsksFor i j
  target_asked i j h =
      let p = (edges_mean inputs planned i j).0 h in
      let from = visits_of i p.f p.a (least_follows (planned_rules_of inputs facts) fact_key fact_key-IsKey planned is_planned (visit i p.f p.a) p.visited) in
      let k : Instance = instance_of s (inst i) p.d in
      let other : same_instance i k ≡ false = no_is_false (same_instance i k) (λ same. p.other (sym p.leads ∙ sym ((same_instance-Decides i k).0 same))) in
      let applies : Contains (applicable_of s (inst i) p.f p.m) p.d = is_depends s (inst i) p.f p.m p.d p.depends in
      let marks : List (List ℕ) = marks_of s i.triplet in
      let here : Contains (asked_by s (inst i) p.d) (need (inst k) core) =
      subst (λ b. Contains (cond b (asked_of_own (inst i) marks p.d) (asked_of_other s marks k p.d)) (need (inst k) core)) (sym other)
      (contains_first (need (inst k) core) (cond (is_off s k) [] (need (inst k) default ∷ []) ++ map (need (inst k)) (names_of marks p.d.features) ++ floor_of k.port p.d.minimum)) in
      let asked : Contains (asked_of s (inst i) p.f p.m) (need (inst k) core) =
      Contains-append_left (flat_map (asked_by s (inst i)) (applicable_of s (inst i) p.f p.m)) (map (need (inst i)) (defaults_of s (inst i) p.f p.m)) (need (inst k) core) (flat_map-contains (asked_by s (inst i)) (applicable_of s (inst i) p.f p.m) p.d (need (inst k) core) applies here) in
      let in_at : Contains (filter is_need (asked_at inputs i p.f p.a)) (need (inst k) core) =
      subst (λ o. Contains (filter is_need (asked_in s i p.f o)) (need (inst k) core)) (sym p.manifest) (filter_contains is_need (asked_of s (inst i) p.f p.m) (need (inst k) core) asked refl) in
      record {
        feature = p.f;
        needed = from.needed;
        asked = subst (λ l. Contains (asked_by_need inputs facts (need (inst i) p.f)) (need (inst l) core)) p.leads (flat_map-contains (planned_from inputs facts) (planned_from inputs facts (need (inst i) p.f)) (visit i p.f p.a) (need (inst k) core) from.visits in_at);
        other = λ same. p.other (sym same);
      }
