-- Items that are moved into the order of their heights are in order.
use Rattle.std.proofs.Common.{◌≡◌, ◌<◌, ◌⊎◌, ◌+◌, ℕ, zero, suc, Bool, true, false, cond, List, [], ◌∷◌, length, map, get_or, inl, inr, refl, ap, sym, ◌∙◌, subst, arith}
use Rattle.std.specs.Prelude.{Option, Some, None, slice_get, option_map}
use Rattle.std.specs.declared.cmp.Ordering.TheVariants.{Less}
use Rattle.std.specs.List.{Contains, list_any}
use Rattle.std.specs.List.Sorted.{IsStrictlyIncreasing}
use Rattle.std.proofs.lemmas.List.{length-map}
use Rattle.std.proofs.lemmas.Map.Keys.{sorted_from_strictly_increasing, below_from_sorted}
use Rattle.vk_spec.specs.Settings.{Instance}
use Rattle.vk_spec.proofs.ListLemmas.{contains_nothing, contains_first, contains_later, contains_cases}
use Rattle.vk_resolution.specs.Keys.{key_cmp}
use Rattle.vk_resolution.specs.Settings.{same_instance}
use Rattle.vk_resolution.specs.Planning.{Item, instance_key, order_of, HasHeight, StandsBefore, IsByHeight, places_from}
use Rattle.vk_resolution.specs.PlannedSets.{edges_of, IsOrdered}
use Rattle.vk_resolution.specs.Walks.{Targets}
use Rattle.vk_resolution.proofs.Members.{any_contains, contains_any, contains_map, map_contains}
use Rattle.vk_resolution.proofs.Levels.{number_before, number_same}
use Rattle.vk_resolution.proofs.FactLemmas.{same_instance-Decides}
use Rattle.vk_resolution.proofs.Soundness.{one_height}
use Rattle.vk_resolution.proofs.Uniqueness.{place_passes}
use Rattle.vk_order.specs.Sets.{AreItems}
use Rattle.vk_order.specs.Needs.{known_at}
use Rattle.vk_order.specs.Arranging.{nobody, IsInOrder, IsSameBut, AreSameBut}
use Rattle.vk_order.proofs.EdgeLemmas.{at_get, needs_in, name, needs, targets, named_less, one_place, listed_name, place_of, need_within, edge_to, edge_from, height_of, all_known}

-- ---- rising numbers

abbrev Rising : List ℕ → Type 0
Rising [] = Unit {0}
Rising (x ∷ xs) = ((y : ℕ) → Contains xs y → x < y) × Rising xs

rising_by : (xs : List ℕ) → ((i j d : ℕ) → i < j → j < length xs → get_or xs i d < get_or xs j d) → Rising xs
rising_by [] up = tt
rising_by (x ∷ xs) up = (
  (λ y h. subst (λ z. x < z) h.2 (up 0 (suc h.0) y (omega arith) (let low : h.0 < length xs = h.1 in let high : suc h.0 < suc (length xs) = omega arith in high))),
  rising_by xs (λ i j d less within. up (suc i) (suc j) d (omega arith) (let high : suc j < suc (length xs) = omega arith in high)),
)

rising_from : (xs : List ℕ) → IsStrictlyIncreasing xs → Rising xs
rising_from xs up = rising_by xs (λ i j d less within. below_from_sorted xs i j d (sorted_from_strictly_increasing xs up) less within)

rising_one : (xs ys : List ℕ) → Rising xs → Rising ys → ((n : ℕ) → Contains xs n → Contains ys n) → ((n : ℕ) → Contains ys n → Contains xs n) → xs ≡ ys
rising_one [] [] one other to from = refl
rising_one [] (y ∷ ys) one other to from = absurd (contains_nothing y (from y (contains_first y ys)))
rising_one (x ∷ xs) [] one other to from = absurd (contains_nothing x (to x (contains_first x xs)))
rising_one (x ∷ xs) (y ∷ ys) one other to from =
    let same : x ≡ y = heads (contains_cases y x ys (to x (contains_first x xs))) (contains_cases x y xs (from y (contains_first y ys))) in
    let rest : xs ≡ ys = rising_one xs ys one.1 other.1
    (λ n h. later n y ys (subst (λ m. m < n) same (one.0 n h)) (to n (contains_later x n xs h)))
    (λ n h. later n x xs (subst (λ m. m < n) (sym same) (other.0 n h)) (from n (contains_later y n ys h))) in
    (cc)
  where
    heads : (y ≡ x) ⊎ Contains ys x → (x ≡ y) ⊎ Contains xs y → x ≡ y
    heads (inl e) b = sym e
    heads (inr h) (inl e) = e
    heads (inr h) (inr k) = let p : y < x = other.0 x h in let q : x < y = one.0 y k in absurd (omega arith)

    later : (n z : ℕ) (zs : List ℕ) → z < n → Contains (z ∷ zs) n → Contains zs n
    later n z zs less h = elim (contains_cases z n zs h) [ inl same ↦ absurd (omega arith) | inr rest ↦ rest ]

-- ---- places of what passes

place_first : (m : ℕ) (b : Bool) (rest : List ℕ) → b ≡ true → Contains (cond b (m ∷ rest) rest) m
place_first m true rest e = contains_first m rest
place_first m false rest e = (cc)

place_later : (m n : ℕ) (b : Bool) (rest : List ℕ) → Contains rest n → Contains (cond b (m ∷ rest) rest) n
place_later m n true rest h = contains_later m n rest h
place_later m n false rest h = h

passes_place : (m n : ℕ) (test : Instance → Bool) (xs : List Instance) (x : Instance) → slice_get xs n ≡ Some x → test x ≡ true → Contains (places_from m test xs) (m + n)
passes_place m n test [] x at passes = (cc)
passes_place m zero test (y ∷ ys) x at passes =
    let same : y ≡ x = (cc) in
    let is : m ≡ m + zero = omega arith in
    subst (Contains (places_from m test (y ∷ ys))) is (place_first m (test y) (places_from (m + 1) test ys) (ap test same ∙ passes))
passes_place m (suc n) test (y ∷ ys) x at passes =
    let is : (m + 1) + n ≡ m + suc n = omega arith in
    subst (Contains (places_from m test (y ∷ ys))) is (place_later m ((m + 1) + n) (test y) (places_from (m + 1) test ys) (passes_place (m + 1) n test ys x at passes))

rising_if : (m : ℕ) (b : Bool) (rest : List ℕ) → ((n : ℕ) → Contains rest n → m < n) → Rising rest → Rising (cond b (m ∷ rest) rest)
rising_if m true rest above up = (above, up)
rising_if m false rest above up = up

places_rise : (m : ℕ) (test : Instance → Bool) (xs : List Instance) → Rising (places_from m test xs)
places_rise m test [] = tt
places_rise m test (x ∷ xs) = rising_if m (test x) (places_from (m + 1) test xs) (λ n h. (let r = place_passes (m + 1) n test xs h in let e : n ≡ (m + 1) + r.0 = r.2 in omega arith)) (places_rise (m + 1) test xs)

-- ---- lists by places

there_is : {X : Type 0} (xs : List X) (n : ℕ) → n < length xs → (x : X) × (slice_get xs n ≡ Some x)
there_is [] n within = absurd (omega arith)
there_is (x ∷ xs) zero within = (x, refl)
there_is (x ∷ xs) (suc n) within = there_is xs n (omega arith)

get_map : {X Y : Type 0} (f : X → Y) (xs : List X) (n : ℕ) → slice_get (map f xs) n ≡ option_map f (slice_get xs n)
get_map f [] n = refl
get_map f (x ∷ xs) zero = refl
get_map f (x ∷ xs) (suc n) = get_map f xs n

contains_get : {X : Type 0} (xs : List X) (x : X) → Contains xs x → (n : ℕ) × (slice_get xs n ≡ Some x)
contains_get [] x h = absurd (contains_nothing x h)
contains_get (y ∷ ys) x h = elim (contains_cases y x ys h) [ inl same ↦ (zero, ap Some same) | inr later ↦ (let r = contains_get ys x later in (suc r.0, r.1)) ]

get_contains : {X : Type 0} (xs : List X) (n : ℕ) (x : X) → slice_get xs n ≡ Some x → Contains xs x
get_contains xs n x at = let r = at_get xs n x x at in (n, r.0, r.1)

-- what is moved stays so when it is seen otherwise
pub moved_view : {X Y : Type 0} (f : X → Y) (xs moved : List X) (order : List ℕ) → map Some moved ≡ map (slice_get xs) order → map Some (map f moved) ≡ map (slice_get (map f xs)) order
moved_view f xs [] [] e = refl
moved_view f xs [] (k ∷ ks) e = (cc)
moved_view f xs (x ∷ moved) [] e = (cc)
moved_view f xs (x ∷ moved) (k ∷ ks) e =
    let head : Some x ≡ slice_get xs k = (cc) in
    let tail : map Some moved ≡ map (slice_get xs) ks = (cc) in
    let one : Some (f x) ≡ slice_get (map f xs) k = ap (option_map f) head ∙ sym (get_map f xs k) in
    let rest : map Some (map f moved) ≡ map (slice_get (map f xs)) ks = moved_view f xs moved ks tail in
    (cc)

by_height_at : (targets : Targets) (is : List Instance) → ((i j : ℕ) (d : Instance) → i < j → j < length is → StandsBefore targets (get_or is i d) (get_or is j d)) → IsByHeight targets is
by_height_at targets [] before = tt
by_height_at targets (x ∷ xs) before = (
  (λ y h. subst (StandsBefore targets x) h.2 (before 0 (suc h.0) y (omega arith) (let low : h.0 < length xs = h.1 in let high : suc h.0 < suc (length xs) = omega arith in high))),
  by_height_at targets xs (λ i j d less within. before (suc i) (suc j) d (omega arith) (let high : suc j < suc (length xs) = omega arith in high)),
)

-- ---- the order

module _ (items : List Item) (are : AreItems items) (order places : List ℕ) (is : IsInOrder (needs_in items) order places) (ready plan : List Item) (same : AreSameBut places items ready) (moved : map Some plan ≡ map (slice_get ready) order) where
  needs_size : length (needs_in items) ≡ length items
  needs_size = length-map items (λ (item : Item). item.needs)

  order_size : length order ≡ length items
  order_size = is.order_is.long ∙ is.are.right.long ∙ needs_size

  plan_size : length plan ≡ length items
  plan_size = sym (length-map plan Some) ∙ ap length moved ∙ length-map order (slice_get ready) ∙ order_size

  -- the item that came to a place
  record Came (m : ℕ) (new : Item) : Type 0 where
    pub place : ℕ
    pub at : slice_get order m ≡ Some place
    pub within : place < length items
    pub old : Item
    pub was : slice_get items place ≡ Some old
    pub but : IsSameBut places old new

  came : (m : ℕ) (new : Item) → slice_get plan m ≡ Some new → Came m new
  came m new here = by (slice_get order m) refl
    where
      both : Some (Some new) ≡ option_map (slice_get ready) (slice_get order m)
      both = ap (option_map Some) (sym here) ∙ sym (get_map Some plan m) ∙ ap (λ l. slice_get l m) moved ∙ get_map (slice_get ready) order m

      by : (o : Option ℕ) → slice_get order m ≡ o → Came m new
      by None e = let clash : Some (Some new) ≡ None = both ∙ ap (option_map (slice_get ready)) e in (cc)
      by (Some k) e =
          let found : Some (Some new) ≡ Some (slice_get ready k) = both ∙ ap (option_map (slice_get ready)) e in
          let there : slice_get ready k ≡ Some new = (cc) in
          let in_ready = at_get ready k new new there in
          let inside : k < length items = subst (λ n. k < n) same.long in_ready.0 in
          let o = there_is items k inside in
          record {
            place = k;
            at = e;
            within = inside;
            old = o.0;
            was = o.1;
            but = subst (λ x. IsSameBut places x new) (at_get items k o.0 o.0 o.1).1 (subst (IsSameBut places (get_or items k o.0)) in_ready.1 (same.each k o.0 new inside));
          }

  old_name : (k : ℕ) (old : Item) → slice_get items k ≡ Some old → name items are k ≡ old.instance
  old_name k old was = (at_get (order_of items) k old.instance nobody (get_map (λ (i : Item). i.instance) items k ∙ ap (option_map (λ (i : Item). i.instance)) was)).1

  old_needs : (k : ℕ) (old : Item) → slice_get items k ≡ Some old → needs items are k ≡ old.needs
  old_needs k old was = (at_get (needs_in items) k old.needs [] (get_map (λ (i : Item). i.needs) items k ∙ ap (option_map (λ (i : Item). i.needs)) was)).1

  -- the name at a place of the plan is that of the place it came from
  new_name : (m : ℕ) (new : Item) (c : Came m new) → new.instance ≡ name items are c.place
  new_name m new c = c.but.instance ∙ sym (old_name c.place c.old c.was)

  -- what stands where a place went
  went : (k : ℕ) → k < length items → (m : ℕ) × (new : Item) × (slice_get plan m ≡ Some new) × (slice_get order m ≡ Some k)
  went k within =
      let c = contains_get order k (is.order_is.all k (subst (λ n. k < n) (sym (is.are.right.long ∙ needs_size)) within)) in
      let low : c.0 < length order = (at_get order c.0 k 0 c.1).0 in
      let n = there_is plan c.0 (subst (λ l. c.0 < l) (order_size ∙ sym plan_size) low) in
      (c.0, n.0, n.1, c.1)

  came_from : (m k : ℕ) (new : Item) (c : Came m new) → slice_get order m ≡ Some k → c.place ≡ k
  came_from m k new c at = let both : Some c.place ≡ Some k = sym c.at ∙ at in (cc)

  -- where a place went is known
  went_to : (m k : ℕ) → slice_get order m ≡ Some k → get_or places k 0 ≡ m
  went_to m k at = let r = at_get order m k 0 at in subst (λ n. get_or places n 0 ≡ m) r.1 (is.places_are.each m 0 0 r.0)

  plan_name : (m : ℕ) (new : Item) → slice_get plan m ≡ Some new → slice_get (order_of plan) m ≡ Some new.instance
  plan_name m new at = get_map (λ (i : Item). i.instance) plan m ∙ ap (option_map (λ (i : Item). i.instance)) at

  plan_to : (i : Instance) → Contains (order_of items) i → Contains (order_of plan) i
  plan_to i h =
      let k = place_of items are i h in
      let w = went k.0 k.1 in
      let c = came w.0 w.1 w.2 in
      let e : w.1.instance ≡ i = new_name w.0 w.1 c ∙ ap (name items are) (came_from w.0 k.0 w.1 c w.3) ∙ k.2 in
      subst (Contains (order_of plan)) e (map_contains (λ (x : Item). x.instance) plan w.1 (get_contains plan w.0 w.1 w.2))

  plan_from : (i : Instance) → Contains (order_of plan) i → (k : ℕ) × (k < length items) × (name items are k ≡ i)
  plan_from i h =
      let new = contains_map (λ (x : Item). x.instance) plan i h in
      let m = contains_get plan new.0 new.1 in
      let c = came m.0 new.0 m.1 in
      (c.place, c.within, sym (new_name m.0 new.0 c) ∙ new.2)

  known : (k : ℕ) → k < length items → (h : ℕ) × (known_at is.heights k ≡ Some h)
  known k within = all_known items are is.heights is.are is.none k within

  height_at : (k : ℕ) → k < length items → (h : ℕ) × (known_at is.heights k ≡ Some h) × HasHeight (targets items are) h (name items are k)
  height_at k within = let h = known k within in (h.0, h.1, height_of items are is.heights is.are.right k h.0 h.1)

  stands_before : (i j : ℕ) (d : Instance) → i < j → j < length (order_of plan) → StandsBefore (targets items are) (get_or (order_of plan) i d) (get_or (order_of plan) j d)
  stands_before i j d less within m n one other =
      let long : length (order_of plan) ≡ length plan = length-map plan (λ (x : Item). x.instance) in
      let high : j < length plan = subst (λ l. j < l) long within in
      let low : i < length plan = omega arith in
      let new_i = there_is plan i low in
      let new_j = there_is plan j high in
      let c = came i new_i.0 new_i.1 in
      let e = came j new_j.0 new_j.1 in
      let name_i : get_or (order_of plan) i d ≡ name items are c.place = (at_get (order_of plan) i new_i.0.instance d (plan_name i new_i.0 new_i.1)).1 ∙ new_name i new_i.0 c in
      let name_j : get_or (order_of plan) j d ≡ name items are e.place = (at_get (order_of plan) j new_j.0.instance d (plan_name j new_j.0 new_j.1)).1 ∙ new_name j new_j.0 e in
      let h = height_at c.place c.within in
      let g = height_at e.place e.within in
      let m_is : m ≡ h.0 = one_height (targets items are) m h.0 (name items are c.place) (subst (HasHeight (targets items are) m) name_i one) h.2 in
      let n_is : n ≡ g.0 = one_height (targets items are) n g.0 (name items are e.place) (subst (HasHeight (targets items are) n) name_j other) g.2 in
      let i_at = at_get order i c.place 0 c.at in
      let j_at = at_get order j e.place 0 e.at in
      let earlier = is.order_is.earlier i j 0 less j_at.0 h.0 g.0 (ap (known_at is.heights) i_at.1 ∙ h.1) (ap (known_at is.heights) j_at.1 ∙ g.1) in
      subst (λ x. key_cmp ((m ∷ []) ∷ instance_key x) ((n ∷ []) ∷ instance_key (get_or (order_of plan) j d)) ≡ Less) (sym name_i)
      (subst (λ x. key_cmp ((m ∷ []) ∷ instance_key (name items are c.place)) ((n ∷ []) ∷ instance_key x) ≡ Less) (sym name_j)
      (by c.place e.place e.within (get_or order i 0) (get_or order j 0) i_at.1 j_at.1 h.0 g.0 m_is n_is earlier))
    where
      by : (p q : ℕ) → q < length items → (x y : ℕ) → x ≡ p → y ≡ q → (h g : ℕ) → m ≡ h → n ≡ g → (h < g) ⊎ ((h ≡ g) × (x < y)) → key_cmp ((m ∷ []) ∷ instance_key (name items are p)) ((n ∷ []) ∷ instance_key (name items are q)) ≡ Less
      by p q inside x y x_is y_is h g m_is n_is (inl lower) = number_before m n (instance_key (name items are p)) (instance_key (name items are q)) (omega arith)
      by p q inside x y x_is y_is h g m_is n_is (inr tied) =
          let equal : h ≡ g = tied.0 in
          let before : x < y = tied.1 in
          number_same m n (instance_key (name items are p)) (instance_key (name items are q)) (omega arith) ∙ named_less items are p q (omega arith) inside

  -- the needs of an item that came to a place
  module _ (m : ℕ) (new : Item) (here : slice_get plan m ≡ Some new) where
    abbrev leads : Instance → Bool
    leads j = list_any (same_instance j) (edges_of items new.instance)

    needs_to : (p : ℕ) → Contains new.needs p → Contains (places_from 0 leads (order_of plan)) p
    needs_to p h =
        let c = came m new here in
        let n = c.but.needs.from p h in
        let need : Contains (needs items are c.place) n.0 = subst (λ l. Contains l n.0) (sym (old_needs c.place c.old c.was)) n.1 in
        let w = went n.0 (need_within items are c.place n.0 need) in
        let e : w.0 ≡ p = sym (went_to w.0 n.0 w.3) ∙ n.2 in
        let d = came w.0 w.1 w.2 in
        let named : w.1.instance ≡ name items are n.0 = new_name w.0 w.1 d ∙ ap (name items are) (came_from w.0 n.0 w.1 d w.3) in
        let edge : Contains (edges_of items new.instance) w.1.instance = subst (Contains (edges_of items new.instance)) (sym named) (subst (λ x. Contains (edges_of items x) (name items are n.0)) (sym (new_name m new c)) (edge_to items are c.place n.0 need)) in
        let passes : leads w.1.instance ≡ true = contains_any (same_instance w.1.instance) (edges_of items new.instance) w.1.instance edge ((same_instance-Decides w.1.instance w.1.instance).1 refl) in
        let zero_is : 0 + w.0 ≡ p = (let q : 0 + w.0 ≡ w.0 = omega arith in q ∙ e) in
        subst (Contains (places_from 0 leads (order_of plan))) zero_is (passes_place 0 w.0 leads (order_of plan) w.1.instance (plan_name w.0 w.1 w.2) passes)

    needs_from : (p : ℕ) → Contains (places_from 0 leads (order_of plan)) p → Contains new.needs p
    needs_from p h =
        let c = came m new here in
        let r = place_passes 0 p leads (order_of plan) h in
        let p_is : p ≡ r.0 = (let q : p ≡ 0 + r.0 = r.2 in omega arith) in
        let target = any_contains (same_instance r.1) (edges_of items new.instance) r.4 in
        let edge : Contains (edges_of items (name items are c.place)) r.1 = subst (λ x. Contains (edges_of items x) r.1) (new_name m new c) (subst (Contains (edges_of items new.instance)) (sym ((same_instance-Decides r.1 target.0).0 target.2)) target.1) in
        let n = edge_from items are c.place r.1 c.within edge in
        let in_n : n.0 < length items = need_within items are c.place n.0 n.1 in
        let low : r.0 < length plan = subst (λ l. r.0 < l) (length-map plan (λ (x : Item). x.instance)) (at_get (order_of plan) r.0 r.1 r.1 r.3).0 in
        let x = there_is plan r.0 low in
        let d = came r.0 x.0 x.1 in
        let x_is : Some x.0.instance ≡ Some r.1 = sym (plan_name r.0 x.0 x.1) ∙ r.3 in
        let x_name : x.0.instance ≡ r.1 = (cc) in
        let place : d.place ≡ n.0 = one_place items are d.place n.0 d.within in_n (sym (new_name r.0 x.0 d) ∙ x_name ∙ sym n.2) in
        let to : get_or places n.0 0 ≡ p = went_to r.0 n.0 (d.at ∙ ap Some place) ∙ sym p_is in
        subst (Contains new.needs) to (c.but.needs.to n.0 (subst (λ l. Contains l n.0) (old_needs c.place c.old c.was) n.1))

    new_needs : new.needs ≡ places_from 0 leads (order_of plan)
    new_needs = let c = came m new here in rising_one new.needs (places_from 0 leads (order_of plan)) (rising_from new.needs c.but.needs.rises) (places_rise 0 leads (order_of plan)) needs_to needs_from

  pub ordered : IsOrdered items plan
  ordered = record {
    to = plan_to;
    from = λ i h. (let k = plan_from i h in subst (Contains (order_of items)) k.2 (listed_name items are k.0 k.1));
    heights = λ i h. (let k = plan_from i h in let g = height_at k.0 k.1 in (g.0, subst (HasHeight (edges_of items) g.0) k.2 g.2));
    order = by_height_at (edges_of items) (order_of plan) stands_before;
    each = λ new h. (
        let m = contains_get plan new h in
        let c = came m.0 new m.1 in
        (c.old, get_contains items c.place c.old c.was, record { instance = c.but.instance; version = c.but.version; line = c.but.line; features = c.but.features; needs = new_needs m.0 new m.1 })
        );
  }
