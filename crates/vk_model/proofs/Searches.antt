-- What is found by a text that ascends along a list.
use Rattle.std.proofs.Common.{◌≡◌, ◌<◌, ◌≤◌, ◌⊎◌, ℕ, zero, suc, Bool, true, false, List, [], ◌∷◌, length, map, get_or, bytes_eq, Ordering, inl, inr, refl, ap, sym, ◌∙◌, arith}
use Rattle.std.specs.Prelude.{Some, None}
use Rattle.std.specs.declared.cmp.Ordering.TheVariants.{Less, Equal, Greater}
use Rattle.std.specs.List.{find}
use Rattle.std.specs.List.Sorted.{IsStrictlySortedBy, IsNonDecreasingBy, IsPartitionPoint}
use Rattle.std.specs.Ordering.{nat_cmp, ordering_index, is_eq}
use Rattle.std.specs.Cmp.Lexicographic.{slice_cmp}
use Rattle.std.specs.FinMap.{slice_cmp-IsAntisymmetric, nat_cmp-IsAntisymmetric}
use Rattle.std.proofs.lemmas.Cmp.{nat_list_cmp_total}
use Rattle.std.proofs.lemmas.Bool.{cases_lt}
use Rattle.std.proofs.lemmas.List.{get_or-map, length-map}
use Rattle.std.proofs.lemmas.Map.Keys.{Less-from_sorted}
use Rattle.std.proofs.lemmas.Map.Text.{is_eq-slice_cmp}
use Rattle.std.proofs.lemmas.Slice.Eq.{bytes_eq-Decides}
use Rattle.vk_json.specs.KeyOrders.{Ascend}

module _ {X : Type 0} (key : X → List ℕ) (name : List ℕ) where
  at_most_two : (o : Ordering) → ordering_index o ≤ 2
  at_most_two Less = omega arith
  at_most_two Equal = omega arith
  at_most_two Greater = omega arith

  -- what comes before compares with the name no greater
  rises : (a b : List ℕ) (o : Ordering) → slice_cmp nat_cmp a b ≡ Less → slice_cmp nat_cmp b name ≡ o → ordering_index (slice_cmp nat_cmp a name) ≤ ordering_index o
  rises a b Less less is = rw (nat_list_cmp_total.trans a b name less is) (omega arith)
  rises a b Equal less is =
      let same : b ≡ name = slice_cmp-IsAntisymmetric nat_cmp-IsAntisymmetric b name is in rw (← same, less) (omega arith)
  rises a b Greater less is = at_most_two (slice_cmp nat_cmp a name)

  -- a test of two texts is their order's
  same_by : (text : List ℕ) (o : Ordering) → slice_cmp nat_cmp text name ≡ o → bytes_eq text name ≡ is_eq o
  same_by text o is = sym (is_eq-slice_cmp text name) ∙ ap is_eq is

  none_found : (xs : List X) → ((i : ℕ) (d : X) → i < length xs → bytes_eq (key (get_or xs i d)) name ≡ false) → find (λ x. bytes_eq (key x) name) xs ≡ None
  none_found [] none = refl
  none_found (x ∷ xs) none = rw (none 0 x (omega arith)) (none_found xs (λ i d within. none (suc i) d (omega arith)))

  one_found : (xs : List X) (i : ℕ) (d : X) → Ascend (map key xs) → i < length xs → key (get_or xs i d) ≡ name → find (λ x. bytes_eq (key x) name) xs ≡ Some (get_or xs i d)
  unfolding IsStrictlySortedBy
  one_found [] i d order within is = absurd (omega arith)
  one_found (x ∷ xs) zero d order within is = rw ((bytes_eq-Decides (key x) name).1 is) refl
  one_found (x ∷ xs) (suc i) d order within is =
      let less = Less-from_sorted (slice_cmp nat_cmp) (map key (x ∷ xs)) 0 (suc i) (key d) order (omega arith) (rw (length-map (x ∷ xs) key) within) in
      let later : get_or (map key (x ∷ xs)) (suc i) (key d) ≡ name = get_or-map key (x ∷ xs) (suc i) d (key d) within ∙ is in
      rw (same_by (key x) Less (rw later at less)) (one_found xs i d order.1 (omega arith) is)

  module _ (xs : List X) (order : Ascend (map key xs)) where
    between : (i j : ℕ) (d : X) → i < j → j < length xs → slice_cmp nat_cmp (key (get_or xs i d)) (key (get_or xs j d)) ≡ Less
    between i j d less within =
        rw (get_or-map key xs i d (key d) (omega (arith, less, within)), get_or-map key xs j d (key d) within) at
        (Less-from_sorted (slice_cmp nat_cmp) (map key xs) i j (key d) order less (rw (length-map xs key) within))

    -- the comparisons with the name rise along the list, as a binary search asks
    pub comparisons_rise : IsNonDecreasingBy (λ x. ordering_index (slice_cmp nat_cmp (key x) name)) xs
    comparisons_rise i j d upto within =
        elim (cases_lt i j) [
          | inl less ↦ rises (key (get_or xs i d)) (key (get_or xs j d)) (slice_cmp nat_cmp (key (get_or xs j d)) name) (between i j d less within) refl
          | inr most ↦ (let same : i ≡ j = omega (arith, upto, most) in rw same (omega arith))
        ]

    -- a search that ends where the name stands found the first
    pub place_found : (place : ℕ) (d : X) → place < length xs → slice_cmp nat_cmp (key (get_or xs place d)) name ≡ Equal → Some (get_or xs place d) ≡ find (λ x. bytes_eq (key x) name) xs
    place_found place d within equal =
        sym (one_found xs place d order within (slice_cmp-IsAntisymmetric nat_cmp-IsAntisymmetric (key (get_or xs place d)) name equal))

    -- one that ends between others found none
    pub place_missing : (place : ℕ)
        → IsPartitionPoint (λ x. slice_cmp nat_cmp (key x) name ≡ Less) (λ x. slice_cmp nat_cmp (key x) name ≡ Greater) xs place
        → None ≡ find (λ x. bytes_eq (key x) name) xs
    place_missing place parted = sym (none_found xs (λ i d within. other i d within (cases_lt i place)))
      where
        other : (i : ℕ) (d : X) → i < length xs → (i < place) ⊎ (place ≤ i) → bytes_eq (key (get_or xs i d)) name ≡ false
        other i d within (inl before) = same_by (key (get_or xs i d)) Less (parted.0 i d (omega arith) before)
        other i d within (inr after) = same_by (key (get_or xs i d)) Greater (parted.1 i d after within)
