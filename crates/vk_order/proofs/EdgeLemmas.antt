-- Items by their places and by their instances.
use Rattle.std.proofs.Common.{◌≡◌, ◌≢◌, ◌<◌, ◌≤◌, ℕ, zero, suc, Bool, true, false, cond, List, [], ◌∷◌, length, map, get_or, inl, inr, refl, ap, sym, ◌∙◌, subst, arith}
use Rattle.std.specs.Prelude.{Option, Some, None, slice_get}
use Rattle.std.specs.declared.cmp.Ordering.TheVariants.{Less, Greater}
use Rattle.std.specs.List.{Contains}
use Rattle.std.proofs.lemmas.Bool.{cases_lt}
use Rattle.std.proofs.lemmas.List.{length-map, get_or_past, get_or_default}
use Rattle.std.proofs.lemmas.List.Elements.{Contains-get_or}
use Rattle.vk_spec.specs.Settings.{Instance}
use Rattle.vk_spec.proofs.ListLemmas.{contains_nothing, contains_first, contains_later, contains_cases, contains-flat_map, flat_map-contains}
use Rattle.vk_resolution.specs.Keys.{Key, key_cmp, Ascends}
use Rattle.vk_resolution.specs.Settings.{same_instance}
use Rattle.vk_resolution.specs.Planning.{Item, instance_key, order_of, HasHeight, has_way, IsOnCycle, IsFrom, IsNext, WalksOn, IsCycle}
use Rattle.vk_resolution.specs.PlannedSets.{needed_by, edges_of}
use Rattle.vk_resolution.specs.Walks.{Targets, EdgesStay}
use Rattle.vk_resolution.specs.Heights.{IsOneMore, at_bottom, above, TargetsHaveHeights}
use Rattle.vk_resolution.proofs.Members.{any_contains, contains_any, contains-filter_map, filter_map-contains, empty_is, no_is_false}
use Rattle.vk_resolution.proofs.Orders.{before_itself, turned}
use Rattle.vk_resolution.proofs.Levels.{number_before, number_same}
use Rattle.vk_resolution.proofs.FactLemmas.{same_instance-Decides}
use Rattle.vk_resolution.proofs.Soundness.{one_height, one_shortest}
use Rattle.vk_resolution.proofs.HeightLemmas.{height_is_one_more}
use Rattle.vk_resolution.proofs.WalkLemmas.{heights_have_no_cycle, no_cycle_gives_heights, targets_are_lower}
use Rattle.vk_order.specs.Sets.{AreItems}
use Rattle.vk_order.specs.Needs.{listed_at, known_at}
use Rattle.vk_order.specs.Components.{AreComponents, StandsAbove, component_at}
use Rattle.vk_order.specs.Peeling.{AreRight, AreHeights}
use Rattle.vk_order.specs.Ways.{AreLengths, IsNearer, IsClosest, HaveNoWay, GoesOn, IsOnNone, by_ways, by_components, AreOnNone, IsFoundWalk}
use Rattle.vk_order.specs.Arranging.{nobody, name_at}
use Rattle.vk_order.proofs.NumberLemmas.{some_none, some_same, known_within}

-- ---- places in a list

pub get_at : {X : Type 0} (xs : List X) (n : ℕ) (d : X) → n < length xs → slice_get xs n ≡ Some (get_or xs n d)
get_at [] n d within = absurd (omega arith)
get_at (x ∷ xs) zero d within = refl
get_at (x ∷ xs) (suc n) d within = get_at xs n d (omega arith)

pub at_get : {X : Type 0} (xs : List X) (n : ℕ) (x d : X) → slice_get xs n ≡ Some x → (n < length xs) × (get_or xs n d ≡ x)
at_get [] n x d e = (cc)
at_get (y ∷ ys) zero x d e = let same : y ≡ x = (cc) in ((let some : 0 < suc (length ys) = omega arith in some), same)
at_get (y ∷ ys) (suc n) x d e = let r = at_get ys n x d e in let below : n < length ys = r.0 in ((let up : suc n < suc (length ys) = omega arith in up), r.1)

-- a key isn't after itself
pub not_after_itself : (k : Key) → key_cmp k k ≡ Greater → ⊥
not_after_itself k e = before_itself k (turned k k e)

-- the one before is less
pub ascends_at : (is : List Instance) → Ascends instance_key is → (i j : ℕ) (d : Instance) → i < j → j < length is → key_cmp (instance_key (get_or is i d)) (instance_key (get_or is j d)) ≡ Less
ascends_at [] up i j d less within = absurd (omega arith)
ascends_at (x ∷ xs) up i zero d less within = absurd (omega arith)
ascends_at (x ∷ xs) up zero (suc j) d less within = up.0 (get_or xs j d) (Contains-get_or xs j d (omega arith))
ascends_at (x ∷ xs) up (suc i) (suc j) d less within = ascends_at xs up.1 i j d (omega arith) (omega arith)

abbrev pub needs_in : List Item → List (List ℕ)
needs_in items = map (λ item. item.needs) items

module _ (items : List Item) (are : AreItems items) where
  abbrev pub name : ℕ → Instance
  name k = name_at (order_of items) k

  abbrev pub needs : ℕ → List ℕ
  needs k = listed_at (needs_in items) k

  abbrev pub targets : Targets
  targets = edges_of items

  names_long : length (order_of items) ≡ length items
  names_long = length-map items (λ (item : Item). item.instance)

  needs_long : length (needs_in items) ≡ length items
  needs_long = length-map items (λ (item : Item). item.needs)

  pub named_less : (i j : ℕ) → i < j → j < length items → key_cmp (instance_key (name i)) (instance_key (name j)) ≡ Less
  named_less i j less within = ascends_at (order_of items) are.ascends i j nobody less (subst (λ n. j < n) (sym names_long) within)

  -- different places have different instances
  pub one_place : (i j : ℕ) → i < length items → j < length items → name i ≡ name j → i ≡ j
  one_place i j low high same = elim (cases_lt i j) [
    | inl less ↦ absurd (before_itself (instance_key (name j)) (subst (λ k. key_cmp (instance_key k) (instance_key (name j)) ≡ Less) same (named_less i j less high)))
    | inr up ↦ elim (cases_lt j i) [
      | inl more ↦ absurd (before_itself (instance_key (name j)) (subst (λ k. key_cmp (instance_key (name j)) (instance_key k) ≡ Less) same (named_less j i more low)))
      | inr down ↦ (omega arith)
    ]
  ]

  pub listed_name : (k : ℕ) → k < length items → Contains (order_of items) (name k)
  listed_name k within = Contains-get_or (order_of items) k nobody (subst (λ n. k < n) (sym names_long) within)

  pub place_of : (i : Instance) → Contains (order_of items) i → (k : ℕ) × (k < length items) × (name k ≡ i)
  place_of i h = (h.0, subst (λ n. h.0 < n) names_long h.1, get_or_default (order_of items) h.0 nobody i h.1 ∙ h.2)

  -- what has needs is a place
  needing_within : (k n : ℕ) → Contains (needs k) n → k < length items
  needing_within k n h = elim (cases_lt k (length items)) [
    | inl within ↦ within
    | inr past ↦ absurd (contains_nothing n (subst (λ l. Contains l n) (get_or_past (needs_in items) k [] (subst (λ m. m ≤ k) (sym needs_long) past)) h))
  ]

  -- the item at a place
  pub item_there : (k : ℕ) → k < length items → (item : Item) × Contains items item × (needs k ≡ item.needs) × (name k ≡ item.instance)
  item_there k within = by items k within
    where
      by : (is : List Item) (k : ℕ) → k < length is → (item : Item) × Contains is item × (listed_at (needs_in is) k ≡ item.needs) × (name_at (order_of is) k ≡ item.instance)
      by [] k within = absurd (omega arith)
      by (i ∷ is) zero within = (i, contains_first i is, refl, refl)
      by (i ∷ is) (suc k) within = let r = by is k (omega arith) in (r.0, contains_later i r.0 is r.1, r.2, r.3)

  pub need_within : (k n : ℕ) → Contains (needs k) n → n < length items
  need_within k n h = let r = item_there k (needing_within k n h) in are.needs r.0 n r.1 (subst (λ l. Contains l n) r.2 h)

  -- a need is an edge
  pub edge_to : (k n : ℕ) → Contains (needs k) n → Contains (targets (name k)) (name n)
  edge_to k n h =
      let r = item_there k (needing_within k n h) in
      let inside : n < length (order_of items) = subst (λ m. n < m) (sym names_long) (need_within k n h) in
      let listed : Contains (needed_by items r.0) (name n) = filter_map-contains (slice_get (order_of items)) r.0.needs n (name n) (subst (λ l. Contains l n) r.2 h) (get_at (order_of items) n nobody inside) in
      flat_map-contains (λ (i : Item). cond (same_instance i.instance (name k)) (needed_by items i) []) items r.0 (name n) r.1
      (subst (λ b. Contains (cond b (needed_by items r.0) []) (name n)) (sym ((same_instance-Decides r.0.instance (name k)).1 (sym r.3))) listed)

  -- and an edge is a need
  pub edge_from : (k : ℕ) (j : Instance) → k < length items → Contains (targets (name k)) j → (n : ℕ) × Contains (needs k) n × (name n ≡ j)
  edge_from k j within h =
      let r = contains-flat_map (λ (i : Item). cond (same_instance i.instance (name k)) (needed_by items i) []) items j h in
      by r.0 r.1 (same_instance r.0.instance (name k)) refl r.2
    where
      at_place : (is : List Item) (item : Item) → Contains is item → (p : ℕ) × (p < length is) × (listed_at (needs_in is) p ≡ item.needs) × (name_at (order_of is) p ≡ item.instance)
      at_place [] item h = absurd (contains_nothing item h)
      at_place (i ∷ is) item h = elim (contains_cases i item is h) [
        | inl same ↦ (zero, (let some : 0 < suc (length is) = omega arith in some), ap (λ (x : Item). x.needs) same, ap (λ (x : Item). x.instance) same)
        | inr later ↦ (let r = at_place is item later in let below : r.0 < length is = r.1 in (suc r.0, (let up : suc r.0 < suc (length is) = omega arith in up), r.2, r.3))
      ]

      by : (item : Item) → Contains items item → (b : Bool) → same_instance item.instance (name k) ≡ b → Contains (cond b (needed_by items item) []) j → (n : ℕ) × Contains (needs k) n × (name n ≡ j)
      by item listed false e at = absurd (contains_nothing j at)
      by item listed true e at =
          let p = at_place items item listed in
          let same : p.0 ≡ k = one_place p.0 k p.1 within (p.3 ∙ (same_instance-Decides item.instance (name k)).0 e) in
          let n = contains-filter_map (slice_get (order_of items)) item.needs j at in
          let found = at_get (order_of items) n.0 j nobody n.2 in
          (n.0, subst (λ q. Contains (needs q) n.0) same (subst (λ l. Contains l n.0) (sym p.2) n.1), found.1)

  pub stay : EdgesStay targets (order_of items)
  stay i h j at =
      let k = place_of i h in
      let n = edge_from k.0 j k.1 (subst (λ l. Contains (targets l) j) (sym k.2) at) in
      subst (Contains (order_of items)) n.2 (listed_name n.0 (need_within k.0 n.0 n.1))

  -- ---- heights

  module _ (heights : List (Option ℕ)) (right : AreRight (needs_in items) heights) where
    known_place : (k h : ℕ) → known_at heights k ≡ Some h → k < length items
    known_place k h known = subst (λ n. k < n) (right.long ∙ needs_long) (known_within heights k h known)

    module _ (k h : ℕ) (known : known_at heights k ≡ Some h) (below : (m n : ℕ) → m < h → known_at heights n ≡ Some m → HasHeight targets m (name n)) where
      lower_height : (j : Instance) → Contains (targets (name k)) j → (m : ℕ) × (m < h) × HasHeight targets m j
      lower_height j edge =
          let n = edge_from k j (known_place k h known) edge in
          let m = (right.each k h known).lower n.0 n.1 in
          (m.0, m.2, subst (HasHeight targets m.0) n.2 (below m.0 n.0 m.2 m.1))

      have_heights : TargetsHaveHeights targets (name k)
      have_heights j edge = let r = lower_height j edge in (r.0, r.2)

      one_more : (g : ℕ) → h ≡ g → IsOneMore targets (name k) h
      one_more zero e = subst (IsOneMore targets (name k)) (sym e) (at_bottom (empty_is (targets (name k)) (λ j edge. (let r = lower_height j edge in let less : r.0 < h = r.1 in absurd (omega arith)))))
      one_more (suc m) e =
          let n = (right.each k h known).next m e in
          subst (IsOneMore targets (name k)) (sym e) (above (name n.0) m (edge_to k n.0 n.1) (below m n.0 (omega arith) n.2)
          (λ j l edge height. (let r = lower_height j edge in let same : l ≡ r.0 = one_height targets l r.0 j height r.2 in let less : r.0 < h = r.1 in omega arith)))

      height_by : HasHeight targets h (name k)
      height_by = (height_is_one_more targets (name k) have_heights h).1 (one_more h refl)

    height_up_to : (b h k : ℕ) → h < b → known_at heights k ≡ Some h → HasHeight targets h (name k)
    height_up_to zero h k low known = absurd (omega arith)
    height_up_to (suc b) h k low known = height_by k h known (λ m n less is. height_up_to b m n (omega arith) is)

    pub height_of : (k h : ℕ) → known_at heights k ≡ Some h → HasHeight targets h (name k)
    height_of k h known = height_up_to (suc h) h k (omega arith) known

  -- ---- ways

  module _ (first : ℕ) (lengths : List (Option ℕ)) (ways : AreLengths (needs_in items) first lengths) where
    first_within : first < length items
    first_within = subst (λ n. first < n) (ways.long ∙ needs_long) (known_within lengths first 0 ways.here)

    way_at : (m k : ℕ) → known_at lengths k ≡ Some m → has_way targets m (name k) (name first) ≡ true
    way_at zero k known = (same_instance-Decides (name k) (name first)).1 (ap name (ways.only k known))
    way_at (suc m) k known = let n = ways.down k m known in contains_any (λ l. has_way targets m l (name first)) (targets (name k)) (name n.0) (edge_to k n.0 n.1) (way_at m n.0 n.2)

    known_by : (m k : ℕ) → k < length items → has_way targets m (name k) (name first) ≡ true → (l : ℕ) × (known_at lengths k ≡ Some l) × (l ≤ m)
    known_by zero k within way = let same : k ≡ first = one_place k first within first_within ((same_instance-Decides (name k) (name first)).0 way) in (zero, subst (λ n. known_at lengths n ≡ Some 0) (sym same) ways.here, (let none : 0 ≤ 0 = omega arith in none))
    known_by (suc m) k within way =
        let j = any_contains (λ l. has_way targets m l (name first)) (targets (name k)) way in
        let n = edge_from k j.0 within j.1 in
        let l = known_by m n.0 (need_within k n.0 n.1) (subst (λ i. has_way targets m i (name first) ≡ true) (sym n.2) j.2) in
        let r = ways.up n.0 l.0 k l.1 n.1 in
        let one : l.0 ≤ m = l.2 in
        let two : r.0 ≤ suc l.0 = r.2 in
        (r.0, r.1, (let all : r.0 ≤ suc m = omega arith in all))

    pub from_at : (k m : ℕ) → k < length items → known_at lengths k ≡ Some m → IsFrom targets m (name k) (name first)
    from_at k m within known = record {
      way = way_at m k known;
      no_shorter = λ n less. no_is_false (has_way targets n (name k) (name first)) (λ way. (
          let l = known_by n k within way in
          let same : l.0 ≡ m = some_same (known_at lengths k) l.0 m l.1 known in
          let low : l.0 ≤ n = l.2 in
          absurd (omega arith)
          ));
    }

    nearer_key : (s j n p : ℕ) → j < length items → p < length items → IsNearer s j n p → key_cmp ((s ∷ []) ∷ instance_key (name j)) ((n ∷ []) ∷ instance_key (name p)) ≢ Greater
    nearer_key s j n p in_j in_p (inl less) e = let clash : Less ≡ Greater = sym (number_before s n (instance_key (name j)) (instance_key (name p)) less) ∙ e in (cc)
    nearer_key s j n p in_j in_p (inr same) e = elim (cases_lt j p) [
      | inl less ↦ (let clash : Less ≡ Greater = sym (number_same s n (instance_key (name j)) (instance_key (name p)) same.0 ∙ named_less j p less in_p) ∙ e in (cc))
      | inr not_less ↦ (
          let low : j ≤ p = same.1 in
          let is : j ≡ p = omega arith in
          not_after_itself (instance_key (name j)) (subst (λ q. key_cmp (instance_key (name j)) (instance_key (name q)) ≡ Greater) (sym is) (sym (number_same s n (instance_key (name j)) (instance_key (name p)) same.0) ∙ e))
          )
    ]

    pub next_at : (k j : ℕ) → k < length items → IsClosest (needs k) lengths j → IsNext targets (name first) (name k) (name j)
    next_at k j within is = record {
      edge = edge_to k j is.needed;
      steps = is.steps;
      back = from_at j is.steps (need_within k j is.needed) is.way;
      best = λ i n edge from. (
          let p = edge_from k i within edge in
          let in_p : p.0 < length items = need_within k p.0 p.1 in
          let there : IsFrom targets n (name p.0) (name first) = subst (λ q. IsFrom targets n q (name first)) (sym p.2) from in
          let l = known_by n p.0 in_p there.way in
          let same : l.0 ≡ n = one_shortest targets l.0 n (name p.0) (name first) (from_at p.0 l.0 in_p l.1) there in
          subst (λ q. key_cmp ((is.steps ∷ []) ∷ instance_key (name j)) ((n ∷ []) ∷ instance_key q) ≢ Greater) p.2 (nearer_key is.steps j n p.0 (need_within k j is.needed) in_p (subst (λ m. IsNearer is.steps j m p.0) same (is.best p.0 l.0 p.1 l.1)))
          );
    }

    pub walk_at : (k : ℕ) (js : List ℕ) → k < length items → GoesOn (needs_in items) lengths first k js → WalksOn targets (name first) (name k) (map name js)
    walk_at k [] within goes = next_at k first within goes
    walk_at k (j ∷ js) within goes =
        let inside : j < length items = need_within k j goes.1.needed in
        ((λ same. goes.0 (one_place j first inside first_within same)), next_at k j within goes.1, walk_at j js inside goes.2)

    closest_cycle : (j : ℕ) → IsClosest (needs first) lengths j → IsOnCycle targets (name first)
    closest_cycle j is = (is.steps, contains_any (λ l. has_way targets is.steps l (name first)) (targets (name first)) (name j) (edge_to first j is.needed) (way_at is.steps j is.way))

    pub on_cycle : (js : List ℕ) → GoesOn (needs_in items) lengths first first js → IsOnCycle targets (name first)
    on_cycle [] goes = closest_cycle first goes
    on_cycle (j ∷ js) goes = closest_cycle j goes.1

    pub no_cycle : HaveNoWay (needs first) lengths → IsOnCycle targets (name first) → ⊥
    no_cycle none cycle =
        let j = any_contains (λ l. has_way targets cycle.0 l (name first)) (targets (name first)) cycle.1 in
        let n = edge_from first j.0 first_within j.1 in
        let l = known_by cycle.0 n.0 (need_within first n.0 n.1) (subst (λ i. has_way targets cycle.0 i (name first) ≡ true) (sym n.2) j.2) in
        some_none (known_at lengths n.0) l.0 l.1 (none n.0 n.1)

  -- ---- components

  module _ (components : List (Option ℕ)) (rising : AreComponents (needs_in items) components) where
    -- no way leads to a higher component
    never_higher : (m k end : ℕ) → k < length items → end < length items → has_way targets m (name k) (name end) ≡ true → component_at components end ≤ component_at components k
    never_higher zero k end within inside way =
        let same : k ≡ end = one_place k end within inside ((same_instance-Decides (name k) (name end)).0 way) in
        let one : component_at components k ≡ component_at components end = ap (component_at components) same in
        omega arith
    never_higher (suc m) k end within inside way =
        let j = any_contains (λ l. has_way targets m l (name end)) (targets (name k)) way in
        let n = edge_from k j.0 within j.1 in
        let low : component_at components n.0 ≤ component_at components k = rising.rise k n.0 n.1 in
        let rest : component_at components end ≤ component_at components n.0 = never_higher m n.0 end (need_within k n.0 n.1) inside (subst (λ i. has_way targets m i (name end) ≡ true) (sym n.2) j.2) in
        omega arith

    pub above_none : (k : ℕ) → k < length items → StandsAbove (needs_in items) components k → IsOnCycle targets (name k) → ⊥
    above_none k within higher cycle =
        let j = any_contains (λ l. has_way targets cycle.0 l (name k)) (targets (name k)) cycle.1 in
        let n = edge_from k j.0 within j.1 in
        let back : component_at components k ≤ component_at components n.0 = never_higher cycle.0 n.0 k (need_within k n.0 n.1) within (subst (λ i. has_way targets cycle.0 i (name k) ≡ true) (sym n.2) j.2) in
        let low : component_at components n.0 < component_at components k = higher n.0 n.1 in
        omega arith

  pub on_none : (k : ℕ) → k < length items → IsOnNone (needs_in items) k → IsOnCycle targets (name k) → ⊥
  on_none k within (by_ways is) cycle = no_cycle k is.lengths is.are is.none cycle
  on_none k within (by_components components rising higher) cycle = above_none components rising k within higher cycle

  -- ---- what is answered

  module _ (heights : List (Option ℕ)) (all : AreHeights (needs_in items) heights) where
    off_cycle : (k : ℕ) → k < length items → (known_at heights k ≡ None → IsOnNone (needs_in items) k) → IsOnCycle targets (name k) → ⊥
    off_cycle k within none cycle = by (known_at heights k) refl
      where
        by : (o : Option ℕ) → known_at heights k ≡ o → ⊥
        by None e = on_none k within (none e) cycle
        by (Some h) e = heights_have_no_cycle targets h (name k) (height_of heights all.right k h e) cycle

    -- where nothing is on a cycle, all heights are known
    pub all_known : AreOnNone (needs_in items) heights → (k : ℕ) → k < length items → (h : ℕ) × (known_at heights k ≡ Some h)
    all_known none k within = by (known_at heights k) refl
      where
        no_cycles : (i : Instance) → Contains (order_of items) i → IsOnCycle targets i → ⊥
        no_cycles i h cycle = let p = place_of i h in off_cycle p.0 p.1 (none p.0 (subst (λ n. p.0 < n) (sym needs_long) p.1)) (subst (IsOnCycle targets) (sym p.2) cycle)

        height_there : (p : ℕ) → p < length items → (n : ℕ) × HasHeight targets n (name p)
        height_there p inside = no_cycle_gives_heights targets (order_of items) stay no_cycles (name p) (listed_name p inside)

        sinks : (b n p : ℕ) → n < b → p < length items → HasHeight targets n (name p) → known_at heights p ≡ None → ⊥
        sinks zero n p low inside height unknown = absurd (omega arith)
        sinks (suc b) n p low inside height unknown =
            let held = all.held p (subst (λ m. p < m) (sym needs_long) inside) unknown in
            let q_in : held.0 < length items = need_within p held.0 held.1 in
            let q = height_there held.0 q_in in
            let lower : q.0 < n = targets_are_lower targets n q.0 (name p) (name held.0) height q.1 (edge_to p held.0 held.1) in
            sinks b q.0 held.0 (omega arith) q_in q.1 held.2

        by : (o : Option ℕ) → known_at heights k ≡ o → (h : ℕ) × (known_at heights k ≡ Some h)
        by (Some h) e = (h, e)
        by None e = let n = height_there k within in absurd (sinks (suc n.0) n.0 k (omega arith) within n.1 e)

    pub cycle_found : (walk : List ℕ) → IsFoundWalk (needs_in items) heights walk → IsCycle targets (order_of items) (map name walk)
    cycle_found [] found = absurd found
    cycle_found (first ∷ rest) found = record {
      planned = listed_name first within;
      on_cycle = on_cycle first found.lengths found.are rest found.walk;
      least = least;
      walk = walk_at first found.lengths found.are first rest within found.walk;
    }
      where
        within : first < length items
        within = subst (λ n. first < n) needs_long found.within

        least : (i : Instance) → Contains (order_of items) i → IsOnCycle targets i → key_cmp (instance_key (name first)) (instance_key i) ≢ Greater
        least i h cycle e =
            let p = place_of i h in
            let there : key_cmp (instance_key (name first)) (instance_key (name p.0)) ≡ Greater = subst (λ j. key_cmp (instance_key (name first)) (instance_key j) ≡ Greater) (sym p.2) e in
            elim (cases_lt p.0 first) [
              | inl before ↦ off_cycle p.0 p.1 (found.before p.0 before) (subst (IsOnCycle targets) (sym p.2) cycle)
              | inr not_before ↦ elim (cases_lt first p.0) [
                | inl later ↦ (let clash : Less ≡ Greater = sym (named_less first p.0 later p.1) ∙ there in (cc))
                | inr not_later ↦ (let same : p.0 ≡ first = omega arith in not_after_itself (instance_key (name first)) (subst (λ n. key_cmp (instance_key (name first)) (instance_key (name n)) ≡ Greater) same there))
              ]
            ]
