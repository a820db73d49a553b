-- The planned set is one, its edges are those of the planned facts, and in order it is the plan.
use Rattle.std.proofs.Common.{◌≡◌, ◌⊎◌, ℕ, zero, suc, ◌+◌, Bool, true, false, cond, List, [], ◌∷◌, map, filter, inl, inr, refl, ap, ap₂, sym, ◌∙◌, subst, arith}
use Rattle.std.specs.Prelude.{Option, Some, None, slice_get}
use Rattle.std.specs.List.{Contains, list_any}
use Rattle.vk_spec.specs.Lists.{IsWithin}
use Rattle.vk_spec.specs.Versions.{Version, Ask, ask_of}
use Rattle.vk_spec.specs.Settings.{Instance}
use Rattle.vk_spec.proofs.ListLemmas.{contains_nothing, contains_first, contains_later, contains_cases, contains-flat_map, flat_map-contains}
use Rattle.vk_resolution.specs.Least.{FollowsFrom, from_one, from_two}
use Rattle.vk_resolution.specs.Settings.{root, inst, same_instance, first_features_of}
use Rattle.vk_resolution.specs.Asking.{Fact, need, floor, visit, fact_key, asked_of, root_facts_of}
use Rattle.vk_resolution.specs.Consequences.{Inputs, asked_at}
use Rattle.vk_resolution.specs.Choices.{chosen_of}
use Rattle.vk_resolution.specs.Reasons.{line_of}
use Rattle.vk_resolution.specs.Planning.{is_need, visit_of, planned_from, planned_rules_of, IsPlanned, instances_of, targets_of, HasHeight, IsByHeight, places_from, Item, IsItem, order_of, IsPlan, IsOnCycle, IsCycle, features_of}
use Rattle.vk_resolution.specs.Walks.{Targets, EdgesStay}
use Rattle.vk_resolution.specs.Keys.{in_order}
use Rattle.vk_resolution.specs.Computed.{Numbered, numbered_key, item_by}
use Rattle.vk_resolution.specs.PlannedSets.{IsPlanSet, needed_by, edges_of, IsMoved, IsOrdered, PlanSetIsOne, PlanSetExists, OrderedExists, PlanSetEdges, OrderedSetIsPlan, PlanSetCycles}
use Rattle.vk_resolution.proofs.Members.{any_contains, contains_any, contains_single, contains_map, map_contains, contains_filter, contains-filter_map, filter_map-contains}
use Rattle.vk_resolution.proofs.Orders.{contains-in_order, in_order-contains, in_order-ascends}
use Rattle.vk_resolution.proofs.Soundness.{numbered_key-IsKey, by_height, item_is, some_map, some_from}
use Rattle.vk_resolution.proofs.WalkLemmas.{no_cycle_gives_heights}
use Rattle.vk_resolution.proofs.FactLemmas.{fact_key-IsKey, same_instance-Decides}
use Rattle.vk_resolution.proofs.AgreementLemmas.{least_follows}
use Rattle.vk_resolution.proofs.Existence.{all_some_there, item_there, need_instance, planned_edges}
use Rattle.vk_resolution.proofs.EdgeLemmas.{edge_is}
use Rattle.vk_resolution.proofs.Uniqueness.{SameMembers, planned_members, instances_same, items_one, any_same, places_same, place_passes, get_contains, height_to, by_height_to, cycle_to}

-- a planned visit is of a planned need
module _ (inputs : Inputs) (facts planned : List Fact) (is_planned : IsPlanned inputs facts planned) where
  visit_in : (j : Instance) (g : List ℕ) (i : Instance) (f : List ℕ) (a : Ask) → Contains planned (need (inst j) g) → (o : Option Version) → Contains (visit_of j g o) (visit i f a) → Contains planned (need (inst i) f)
  visit_in j g i f a h None at = absurd (contains_nothing (visit i f a) at)
  visit_in j g i f a h (Some v) at =
      let same : visit j g (ask_of v) ≡ visit i f a = contains_single (visit j g (ask_of v)) (visit i f a) at in
      let instance : j ≡ i = (cc) in
      let feature : g ≡ f = (cc) in
      subst (λ k. Contains planned (need (inst k) f)) instance (subst (λ k. Contains planned (need (inst j) k)) feature h)

  no_visit_asked : (asked : List Fact) (i : Instance) (f : List ℕ) (a : Ask) → Contains (filter is_need asked) (visit i f a) → ⊥
  no_visit_asked asked i f a at = let clash : false ≡ true = (contains_filter is_need asked (visit i f a) at).1 in (cc)

  visit_from : (y : Fact) → Contains planned y → (i : Instance) (f : List ℕ) (a : Ask) → Contains (planned_from inputs facts y) (visit i f a) → Contains planned (need (inst i) f)
  visit_from (need (root t) g) h i f a at = absurd (no_visit_asked (asked_of inputs.setting (root t) g inputs.setting.root) i f a at)
  visit_from (need (inst j) g) h i f a at = visit_in j g i f a h (chosen_of inputs facts j.port) at
  visit_from (floor p b) h i f a at = absurd (contains_nothing (visit i f a) at)
  visit_from (visit j g b) h i f a at = absurd (no_visit_asked (asked_at inputs j g b) i f a at)

  visit_needed : (i : Instance) (f : List ℕ) (a : Ask) → Contains planned (visit i f a) → Contains planned (need (inst i) f)
  visit_needed i f a h = by (least_follows (planned_rules_of inputs facts) fact_key fact_key-IsKey planned is_planned (visit i f a) h)
    where
      by : Contains (root_facts_of inputs.setting) (visit i f a) ⊎ FollowsFrom (planned_rules_of inputs facts) (Contains planned) (visit i f a) → Contains planned (need (inst i) f)
      by (inl is_root) = let r = contains_map (need (root inputs.setting.target.name)) (first_features_of inputs.setting) (visit i f a) is_root in let clash : need (root inputs.setting.target.name) r.0 ≡ visit i f a = r.2 in (cc)
      by (inr (from_one y holds at)) = visit_from y holds i f a at
      by (inr (from_two y z one two at)) = absurd (contains_nothing (visit i f a) at)

  -- an edge leaves a planned instance
  edge_planned : (i j : Instance) → Contains (targets_of inputs planned i) j → Contains (instances_of planned) i
  edge_planned i j h = let p = edge_is inputs planned i j h in need_instance inputs facts planned is_planned i p.f (visit_needed i p.f p.a p.visited)

-- where something stands in a list
place_of : {X : Type 0} (xs : List X) (x : X) → Contains xs x → (n : ℕ) × (slice_get xs n ≡ Some x)
place_of [] x h = absurd (contains_nothing x h)
place_of (y ∷ ys) x h =
    elim (contains_cases y x ys h) [
      | inl same ↦ (zero, ap Some same)
      | inr later ↦ (let r = place_of ys x later in (suc r.0, r.1))
    ]

-- what passes has its place among those that pass
place_first : (m : ℕ) (b : Bool) (rest : List ℕ) → b ≡ true → Contains (cond b (m ∷ rest) rest) m
place_first m true rest e = contains_first m rest
place_first m false rest e = (cc)

place_later : (m n : ℕ) (b : Bool) (rest : List ℕ) → Contains rest n → Contains (cond b (m ∷ rest) rest) n
place_later m n true rest h = contains_later m n rest h
place_later m n false rest h = h

passes_place : {X : Type 0} (m n : ℕ) (test : X → Bool) (xs : List X) (x : X) → slice_get xs n ≡ Some x → test x ≡ true → Contains (places_from m test xs) (m + n)
passes_place m n test [] x at passes = (cc)
passes_place m zero test (y ∷ ys) x at passes =
    let same : y ≡ x = (cc) in
    let is : m ≡ m + zero = omega arith in
    subst (Contains (places_from m test (y ∷ ys))) is (place_first m (test y) (places_from (m + 1) test ys) (ap test same ∙ passes))
passes_place m (suc n) test (y ∷ ys) x at passes =
    let is : (m + 1) + n ≡ m + suc n = omega arith in
    subst (Contains (places_from m test (y ∷ ys))) is (place_later m ((m + 1) + n) (test y) (places_from (m + 1) test ys) (passes_place (m + 1) n test ys x at passes))

module _ (inputs : Inputs) (facts planned : List Fact) (is_planned : IsPlanned inputs facts planned) (set : List Item) (is_set : IsPlanSet inputs facts planned set) where
  abbrev leads : Instance → Instance → Bool
  leads i j = list_any (same_instance j) (targets_of inputs planned i)

  -- what an item needs is what it leads to
  needed_target : (item : Item) (j : Instance) → Contains set item → Contains (needed_by set item) j → Contains (targets_of inputs planned item.instance) j
  needed_target item j h at =
      let n = contains-filter_map (slice_get (order_of set)) item.needs j at in
      let place = place_passes 0 n.0 (leads item.instance) (order_of set) (subst (λ l. Contains l n.0) (is_set.each item h).needs n.1) in
      let same : n.0 ≡ place.0 = let p : n.0 ≡ 0 + place.0 = place.2 in omega arith in
      let found : Some place.1 ≡ Some j = sym place.3 ∙ ap (slice_get (order_of set)) (sym same) ∙ n.2 in
      let is : place.1 ≡ j = (cc) in
      let target = any_contains (same_instance place.1) (targets_of inputs planned item.instance) place.4 in
      subst (Contains (targets_of inputs planned item.instance)) (sym ((same_instance-Decides place.1 target.0).0 target.2) ∙ is) target.1

  target_needed : (item : Item) (j : Instance) → Contains set item → Contains (targets_of inputs planned item.instance) j → Contains (needed_by set item) j
  target_needed item j h at =
      let here : Contains (instances_of planned) item.instance = edge_planned inputs facts planned is_planned item.instance j at in
      let listed : Contains (order_of set) j = subst (λ l. Contains l j) (sym is_set.order) ((planned_edges inputs facts planned is_planned).stay item.instance here j at) in
      let place = place_of (order_of set) j listed in
      let passes : leads item.instance j ≡ true = contains_any (same_instance j) (targets_of inputs planned item.instance) j at ((same_instance-Decides j j).1 refl) in
      let n : ℕ = place.0 in
      let is : 0 + n ≡ n = omega arith in
      let among : Contains item.needs n =
      subst (λ l. Contains l n) (sym (is_set.each item h).needs) (subst (Contains (places_from 0 (leads item.instance) (order_of set))) is (passes_place 0 n (leads item.instance) (order_of set) j place.1 passes)) in
      filter_map-contains (slice_get (order_of set)) item.needs n j among place.1

  edge_to : (i j : Instance) (item : Item) (b : Bool) → same_instance item.instance i ≡ b → Contains set item → Contains (cond b (needed_by set item) []) j → Contains (targets_of inputs planned i) j
  edge_to i j item true e h at = subst (λ k. Contains (targets_of inputs planned k) j) ((same_instance-Decides item.instance i).0 e) (needed_target item j h at)
  edge_to i j item false e h at = absurd (contains_nothing j at)

  edges_to : (i : Instance) → IsWithin (edges_of set i) (targets_of inputs planned i)
  edges_to i j h =
      let r = contains-flat_map (λ (item : Item). cond (same_instance item.instance i) (needed_by set item) []) set j h in
      edge_to i j r.0 (same_instance r.0.instance i) refl r.1 r.2

  edges_from : (i : Instance) → IsWithin (targets_of inputs planned i) (edges_of set i)
  edges_from i j h =
      let listed : Contains (order_of set) i = subst (λ l. Contains l i) (sym is_set.order) (edge_planned inputs facts planned is_planned i j h) in
      let item = contains_map (λ (k : Item). k.instance) set i listed in
      let needed : Contains (needed_by set item.0) j = target_needed item.0 j item.1 (subst (λ k. Contains (targets_of inputs planned k) j) (sym item.2) h) in
      flat_map-contains (λ (k : Item). cond (same_instance k.instance i) (needed_by set k) []) set item.0 j item.1
      (subst (λ b. Contains (cond b (needed_by set item.0) []) j) (sym ((same_instance-Decides item.0.instance i).1 item.2)) needed)

  same_edges : (i : Instance) → SameMembers (edges_of set i) (targets_of inputs planned i)
  same_edges i = record { to = edges_to i; from = edges_from i }

  same_targets : (i : Instance) → SameMembers (targets_of inputs planned i) (edges_of set i)
  same_targets i = record { to = edges_from i; from = edges_to i }

  -- an item of the set, moved, is an item of the plan
  moved_item : (plan : List Item) (old new : Item) → Contains set old → IsMoved set plan old new → IsItem inputs facts planned (order_of plan) new
  moved_item plan old new h moved =
      let is = is_set.each old h in
      record {
        version = ap (λ (i : Instance). chosen_of inputs facts i.port) moved.instance ∙ is.version ∙ ap Some (sym moved.version);
        line = ap₂ (λ (i : Instance) (v : Version). line_of facts (floor i.port (ask_of v))) moved.instance moved.version ∙ is.line ∙ ap Some (sym moved.line);
        features = moved.features ∙ is.features ∙ ap (features_of planned) (sym moved.instance);
        needs = moved.needs ∙ places_same 0 (λ j. list_any (same_instance j) (edges_of set new.instance)) (leads new.instance) (order_of plan)
            (λ j. any_same (same_instance j) (same_instance j) (edges_of set new.instance) (targets_of inputs planned new.instance) (same_edges new.instance) (λ k. refl));
      }

  ordered_is_plan : (plan : List Item) → IsOrdered set plan → IsPlan inputs facts planned plan
  ordered_is_plan plan ordered = record {
    all = λ i. ((λ h. subst (λ l. Contains l i) is_set.order (ordered.from i h)), (λ h. ordered.to i (subst (λ l. Contains l i) (sym is_set.order) h)));
    heights = λ i h. (let r = ordered.heights i h in (r.0, height_to (edges_of set) (targets_of inputs planned) same_edges r.0 i r.1));
    order = by_height_to (edges_of set) (targets_of inputs planned) same_edges (order_of plan) ordered.order;
    each = λ item h. (let r = ordered.each item h in moved_item plan r.0 item r.1 r.2);
  }

pub plan_set_edges : PlanSetEdges
plan_set_edges inputs facts planned is_planned set is_set = record { to = edges_to inputs facts planned is_planned set is_set; from = edges_from inputs facts planned is_planned set is_set }

pub ordered_set_is_plan : OrderedSetIsPlan
ordered_set_is_plan inputs facts planned is_planned set plan is_set ordered = ordered_is_plan inputs facts planned is_planned set is_set plan ordered

pub plan_set_cycles : PlanSetCycles
plan_set_cycles inputs facts planned is_planned set is_set walk = (
  (λ cycle. subst (λ l. IsCycle (targets_of inputs planned) l walk) is_set.order (cycle_to (edges_of set) (targets_of inputs planned) (same_edges inputs facts planned is_planned set is_set) (order_of set) walk cycle)),
  (λ cycle. cycle_to (targets_of inputs planned) (edges_of set) (same_targets inputs facts planned is_planned set is_set) (order_of set) walk (subst (λ l. IsCycle (targets_of inputs planned) l walk) (sym is_set.order) cycle)),
)

pub plan_set_is_one : PlanSetIsOne
plan_set_is_one inputs facts one other is_one is_other items more set set_other =
    let members = planned_members inputs facts one other is_one is_other in
    let order : order_of items ≡ order_of more = set.order ∙ instances_same inputs facts one other members ∙ sym set_other.order in
    items_one inputs facts one other members (order_of items) items more order set.each (λ k h. subst (λ l. IsItem inputs facts other l k) (sym order) (set_other.each k h))

-- ---- there is a set, and it can be put in order

pub plan_set_exists : PlanSetExists
plan_set_exists inputs order rows facts ordered first second planned is_planned =
    let listed : List Instance = instances_of planned in
    let items = all_some_there (item_by inputs facts planned listed) listed (item_there inputs order rows (λ fault. []) facts ordered first second planned is_planned listed) in
    let same : order_of items.0 ≡ listed = some_map (item_by inputs facts planned listed) (λ (k : Item). k.instance) (λ i item h. (item_is inputs facts planned listed i item h).0) listed items.0 items.1 in (
      items.0,
      record {
        order = same;
        each = λ item h. (
            let q = some_from (item_by inputs facts planned listed) listed items.0 items.1 item h in
            subst (λ l. IsItem inputs facts planned l item) (sym same) (item_is inputs facts planned listed q.0 item q.2).1
            );
      },
    )

-- the instances of a list, each with its height
numbered_there : (targets : Targets) (is : List Instance) → ((i : Instance) → Contains is i → (n : ℕ) × HasHeight targets n i)
    → (ps : List Numbered) × (map (λ (p : Numbered). p.1) ps ≡ is) × ((p : Numbered) → Contains ps p → HasHeight targets p.0 p.1)
numbered_there targets [] heights = ([], refl, λ p h. absurd (contains_nothing p h))
numbered_there targets (i ∷ is) heights =
    let n = heights i (contains_first i is) in
    let rest = numbered_there targets is (λ j h. heights j (contains_later i j is h)) in
    ((n.0, i) ∷ rest.0, ap (λ l. i ∷ l) rest.1, with_first (n.0, i) rest.0 n.1 rest.2)
  where
    with_first : (q : Numbered) (ps : List Numbered) → HasHeight targets q.0 q.1 → ((p : Numbered) → Contains ps p → HasHeight targets p.0 p.1) → (p : Numbered) → Contains (q ∷ ps) p → HasHeight targets p.0 p.1
    with_first q ps has each p h = elim (contains_cases q p ps h) [ inl same ↦ subst (λ (k : Numbered). HasHeight targets k.0 k.1) same has | inr later ↦ each p later ]

module _ (set : List Item) where
  edges_stay : EdgesStay (edges_of set) (order_of set)
  edges_stay i h j at =
      let r = contains-flat_map (λ (item : Item). cond (same_instance item.instance i) (needed_by set item) []) set j at in
      by r.0 (same_instance r.0.instance i) r.2
    where
      by : (item : Item) (b : Bool) → Contains (cond b (needed_by set item) []) j → Contains (order_of set) j
      by item true within = let n = contains-filter_map (slice_get (order_of set)) item.needs j within in get_contains (order_of set) n.0 j n.2
      by item false within = absurd (contains_nothing j within)

  -- an item with the places of its needs in another order
  abbrev placed : List Instance → Item → Item
  placed ranked old = record {
    instance = old.instance;
    version = old.version;
    line = old.line;
    features = old.features;
    needs = places_from 0 (λ j. list_any (same_instance j) (edges_of set old.instance)) ranked;
  }

  record ArePlaced (ranked is : List Instance) (plan : List Item) : Type 0 where
    pub order : order_of plan ≡ is
    pub each : (new : Item) → Contains plan new → (old : Item) × Contains set old × (placed ranked old ≡ new)

  placed_there : (ranked is : List Instance) → IsWithin is (order_of set) → (plan : List Item) × ArePlaced ranked is plan
  placed_there ranked [] within = ([], record { order = refl; each = λ new h. absurd (contains_nothing new h) })
  placed_there ranked (i ∷ is) within =
      let old = contains_map (λ (k : Item). k.instance) set i (within i (contains_first i is)) in
      let rest = placed_there ranked is (λ j h. within j (contains_later i j is h)) in (
        placed ranked old.0 ∷ rest.0,
        record {
          order = ap₂ (λ (j : Instance) (js : List Instance). j ∷ js) old.2 rest.1.order;
          each = λ new h. elim (contains_cases (placed ranked old.0) new rest.0 h) [ inl same ↦ (old.0, old.1, same) | inr later ↦ rest.1.each new later ];
        },
      )

  is_moved : (ranked : List Instance) (plan : List Item) (old new : Item) → order_of plan ≡ ranked → placed ranked old ≡ new → IsMoved set plan old new
  is_moved ranked plan old new order same = subst (IsMoved set plan old) same (record {
    instance = refl;
    version = refl;
    line = refl;
    features = refl;
    needs = ap (places_from 0 (λ j. list_any (same_instance j) (edges_of set old.instance))) (sym order);
  })

  ordered_there : ((i : Instance) → Contains (order_of set) i → IsOnCycle (edges_of set) i → ⊥) → (plan : List Item) × IsOrdered set plan
  ordered_there none =
      let heights = no_cycle_gives_heights (edges_of set) (order_of set) edges_stay none in
      let ps = numbered_there (edges_of set) (order_of set) heights in
      let sorted : List Numbered = in_order numbered_key ps.0 in
      let ranked : List Instance = map (λ (p : Numbered). p.1) sorted in
      let from : IsWithin ranked (order_of set) = λ i h. (
      let q = contains_map (λ (p : Numbered). p.1) sorted i h in
      subst (λ l. Contains l i) ps.1 (subst (Contains (map (λ (p : Numbered). p.1) ps.0)) q.2 (map_contains (λ (p : Numbered). p.1) ps.0 q.0 (contains-in_order numbered_key ps.0 q.0 q.1)))
      ) in
      let to : IsWithin (order_of set) ranked = λ i h. (
      let q = contains_map (λ (p : Numbered). p.1) ps.0 i (subst (λ l. Contains l i) (sym ps.1) h) in
      subst (Contains ranked) q.2 (map_contains (λ (p : Numbered). p.1) sorted q.0 (in_order-contains numbered_key numbered_key-IsKey ps.0 q.0 q.1))
      ) in
      let plan = placed_there ranked ranked from in
      let order : order_of plan.0 ≡ ranked = plan.1.order in (
        plan.0,
        record {
          to = λ i h. subst (λ l. Contains l i) (sym order) (to i h);
          from = λ i h. from i (subst (λ l. Contains l i) order h);
          heights = λ i h. heights i (from i (subst (λ l. Contains l i) order h));
          order = subst (IsByHeight (edges_of set)) (sym order) (by_height (edges_of set) sorted (in_order-ascends numbered_key ps.0) (λ p h. ps.2 p (contains-in_order numbered_key ps.0 p h)));
          each = λ new h. (let r = plan.1.each new h in (r.0, r.1, is_moved ranked plan.0 r.0 new order r.2));
        },
      )

pub ordered_exists : OrderedExists
ordered_exists set none = ordered_there set none
