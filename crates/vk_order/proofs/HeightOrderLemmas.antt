-- Places in the order of their heights.
use Rattle.std.proofs.Common.{◌≡◌, ◌≢◌, ◌<◌, ◌⊎◌, ℕ, Bool, true, false, eqb, List, length, map, get_or, inl, inr, refl, ap, sym, ◌∙◌, subst, arith}
use Rattle.std.specs.Prelude.{Option, Some, None}
use Rattle.std.specs.Option.{option_cmp}
use Rattle.std.specs.declared.cmp.Ordering.{Ordering}
use Rattle.std.specs.declared.cmp.Ordering.TheVariants.{Less, Equal, Greater}
use Rattle.std.specs.Ordering.{nat_cmp, is_lt, ordering_then, MatchOrdering}
use Rattle.std.specs.Cmp.{ranks, IsTotalOrder}
use Rattle.std.specs.Cmp.Lexicographic.{options_total}
use Rattle.std.specs.List.{Contains, IsDistinct}
use Rattle.std.specs.List.Sorted.{IsPermutation, IsSorted}
use Rattle.std.proofs.lemmas.Bool.Decides.{Decides-eqb}
use Rattle.std.proofs.lemmas.Cmp.{then_total, on_total, nat_cmp_total}
use Rattle.std.proofs.lemmas.List.{length-map, get_or-map}
use Rattle.std.proofs.lemmas.List.Elements.{Contains-get_or}
use Rattle.std.proofs.lemmas.List.Sorted.{Contains-permutation, IsPermutation-sym, IsPermutation-map, length_permutation, sorted_far, ranks_by}
use Rattle.std.proofs.lemmas.Map.Keys.{IsDistinct-IsPermutation, IsDistinct-from_apart, apart_from_distinct}
use Rattle.vk_resolution.proofs.Members.{true_false, no_is_false, contains_map, map_contains}
use Rattle.vk_order.specs.Needs.{known_at}
use Rattle.vk_order.specs.Moves.{AreRanked, IsHeightOrder, StandOnce}

abbrev Ranked : Type 0
Ranked = Option ℕ × ℕ

abbrev ranked_cmp : Ranked → Ranked → Ordering
ranked_cmp x y = ordering_then (option_cmp nat_cmp x.0 y.0) (nat_cmp x.1 y.1)

ranked_total : IsTotalOrder ranked_cmp
ranked_total = then_total (on_total (λ (x : Ranked). x.0) (options_total nat_cmp_total)) (on_total (λ (x : Ranked). x.1) nat_cmp_total)

flips : (x y : ℕ) → eqb x y ≡ eqb y x
flips x y = by (eqb x y) refl
  where
    by : (b : Bool) → eqb x y ≡ b → eqb x y ≡ eqb y x
    by true e = e ∙ sym ((Decides-eqb y x).1 (sym ((Decides-eqb x y).0 e)))
    by false e = e ∙ sym (no_is_false (eqb y x) (λ t. true_false (eqb x y) ((Decides-eqb x y).1 (sym ((Decides-eqb y x).0 t))) e))

-- the later of two isn't less
not_less : (m n i j : ℕ) → is_lt (ranked_cmp (Some n, j) (Some m, i)) ≡ false → i ≢ j → (m < n) ⊎ ((m ≡ n) × (i < j))
not_less m n i j e other = by (nat_cmp n m) (nat_cmp j i) refl refl e
  where
    rank : (a b : ℕ) (o : Ordering) → nat_cmp a b ≡ o → MatchOrdering o (a < b) (a ≡ b) (b < a)
    rank a b o is = subst (λ o. MatchOrdering o (a < b) (a ≡ b) (b < a)) is (ranks a b)

    by : (o p : Ordering) → nat_cmp n m ≡ o → nat_cmp j i ≡ p → is_lt (ordering_then o p) ≡ false → (m < n) ⊎ ((m ≡ n) × (i < j))
    by Less p one two h = (cc)
    by Greater p one two h = inl (rank n m Greater one)
    by Equal Less one two h = (cc)
    by Equal Equal one two h = absurd (other (sym (rank j i Equal two)))
    by Equal Greater one two h = inr (sym (rank n m Equal one), rank j i Greater two)

module _ (heights : List (Option ℕ)) (ranked sorted : List Ranked) (order : List ℕ) (are : AreRanked heights ranked) (moved : IsPermutation ranked sorted) (rises : IsSorted ranked_cmp sorted) (is : order ≡ map (λ (r : Ranked). r.1) sorted) where
  size : length sorted ≡ length heights
  size = length_permutation ranked sorted moved ∙ are.long

  order_size : length order ≡ length sorted
  order_size = ap length is ∙ length-map sorted (λ (r : Ranked). r.1)

  -- each is a place with its height
  ranked_is : (r : Ranked) → Contains sorted r → (r.0 ≡ known_at heights r.1) × (r.1 < length heights)
  ranked_is r h =
      let at = Contains-permutation sorted ranked r (IsPermutation-sym ranked sorted moved) h in
      let inside : at.0 < length heights = (let low : at.0 < length ranked = at.1 in let long : length ranked ≡ length heights = are.long in omega arith) in
      let here : r ≡ (known_at heights at.0, at.0) = sym at.2 ∙ are.each at.0 r inside in
      let place : at.0 ≡ r.1 = sym (ap (λ (x : Ranked). x.1) here) in
      (ap (λ (x : Ranked). x.0) here ∙ ap (known_at heights) place, subst (λ n. n < length heights) place inside)

  place_at : (i d : ℕ) (r : Ranked) → i < length sorted → get_or order i d ≡ (get_or sorted i r).1
  place_at i d r within = ap (λ l. get_or l i d) is ∙ get_or-map (λ (x : Ranked). x.1) sorted i r d within

  ranked_at : (i d m : ℕ) (r : Ranked) → i < length sorted → known_at heights (get_or order i d) ≡ Some m → get_or sorted i r ≡ (Some m, get_or order i d)
  ranked_at i d m r within known =
      let facts = ranked_is (get_or sorted i r) (Contains-get_or sorted i r within) in
      let place : get_or order i d ≡ (get_or sorted i r).1 = place_at i d r within in
      let height : (get_or sorted i r).0 ≡ Some m = facts.0 ∙ ap (known_at heights) (sym place) ∙ known in
      λ k. (height k, sym place k)

  -- no place is ranked twice
  once : StandOnce order
  once i j d less within same = true_false (eqb (get_or order i d) (get_or order j d)) ((Decides-eqb (get_or order i d) (get_or order j d)).1 same) (apart_from_distinct eqb order i j d distinct less within)
    where
      apart : (i j d : ℕ) → i < j → j < length (map (λ (r : Ranked). r.1) ranked) → eqb (get_or (map (λ (r : Ranked). r.1) ranked) i d) (get_or (map (λ (r : Ranked). r.1) ranked) j d) ≡ false
      apart i j d less within =
          let long : length (map (λ (r : Ranked). r.1) ranked) ≡ length ranked = length-map ranked (λ (r : Ranked). r.1) in
          let all : length ranked ≡ length heights = are.long in
          let low : i < length ranked = omega arith in
          let high : j < length ranked = omega arith in
          let low_in : i < length heights = omega arith in
          let high_in : j < length heights = omega arith in
          let one : get_or (map (λ (r : Ranked). r.1) ranked) i d ≡ i = get_or-map (λ (r : Ranked). r.1) ranked i (None, 0) d low ∙ ap (λ (r : Ranked). r.1) (are.each i (None, 0) low_in) in
          let two : get_or (map (λ (r : Ranked). r.1) ranked) j d ≡ j = get_or-map (λ (r : Ranked). r.1) ranked j (None, 0) d high ∙ ap (λ (r : Ranked). r.1) (are.each j (None, 0) high_in) in
          no_is_false (eqb (get_or (map (λ (r : Ranked). r.1) ranked) i d) (get_or (map (λ (r : Ranked). r.1) ranked) j d)) (λ t. (
          let e : get_or (map (λ (r : Ranked). r.1) ranked) i d ≡ get_or (map (λ (r : Ranked). r.1) ranked) j d = (Decides-eqb (get_or (map (λ (r : Ranked). r.1) ranked) i d) (get_or (map (λ (r : Ranked). r.1) ranked) j d)).0 t in
          let f : i ≡ j = sym one ∙ e ∙ two in
          absurd (omega arith)
          ))

      distinct : IsDistinct eqb order
      distinct = subst (IsDistinct eqb) (sym is) (IsDistinct-IsPermutation eqb flips (map (λ (r : Ranked). r.1) ranked) (map (λ (r : Ranked). r.1) sorted) (IsPermutation-map (λ (r : Ranked). r.1) ranked sorted moved) (IsDistinct-from_apart eqb (map (λ (r : Ranked). r.1) ranked) apart))

  pub height_order_is : IsHeightOrder heights order
  height_order_is = record {
    long = order_size ∙ size;
    all = λ k within. (
        let inside : k < length ranked = subst (λ n. k < n) (sym are.long) within in
        let listed : Contains ranked (known_at heights k, k) = (k, inside, are.each k (known_at heights k, k) within) in
        subst (λ l. Contains l k) (sym is) (map_contains (λ (r : Ranked). r.1) sorted (known_at heights k, k) (Contains-permutation ranked sorted (known_at heights k, k) moved listed))
        );
    only = λ k h. (
        let r = contains_map (λ (r : Ranked). r.1) sorted k (subst (λ l. Contains l k) is h) in
        subst (λ n. n < length heights) r.2 (ranked_is r.0 r.1).1
        );
    once = once;
    earlier = λ i j d less within m n one two. (
        let high : j < length sorted = subst (λ l. j < l) order_size within in
        let low : i < length sorted = omega arith in
        let far : is_lt (ranked_cmp (get_or sorted j (None, 0)) (get_or sorted i (None, 0))) ≡ false = sorted_far (λ x y. is_lt (ranked_cmp x y)) (ranks_by ranked_total (λ (x : Ranked). x)) sorted rises i j (None, 0) (omega arith) high in
        let far_up : is_lt (ranked_cmp (Some n, get_or order j d) (get_or sorted i (None, 0))) ≡ false = subst (λ r. is_lt (ranked_cmp r (get_or sorted i (None, 0))) ≡ false) (ranked_at j d n (None, 0) high two) far in
        let far_both : is_lt (ranked_cmp (Some n, get_or order j d) (Some m, get_or order i d)) ≡ false = subst (λ r. is_lt (ranked_cmp (Some n, get_or order j d) r) ≡ false) (ranked_at i d m (None, 0) low one) far_up in
        not_less m n (get_or order i d) (get_or order j d) far_both (once i j d less within)
        );
  }
