-- What moves with the items.
use Rattle.std.proofs.Common.{◌≡◌, ◌≢◌, ◌<◌, ◌≤◌, ◌+◌, ℕ, eqb, List, [], ◌∷◌, ◌++◌, length, map, take, set, get_or, inl, inr, ap, sym, ◌∙◌, subst, arith}
use Rattle.std.specs.Prelude.{Option, Some, None, slice_get}
use Rattle.std.specs.List.{Contains, dedup}
use Rattle.std.specs.List.Sorted.{IsPermutation, IsSorted, IsStrictlyIncreasing}
use Rattle.std.specs.Ordering.{nat_cmp}
use Rattle.std.proofs.lemmas.Bool.{cases_lt}
use Rattle.std.proofs.lemmas.List.{take_all, take_more, take_at, length-set, length-map, get_or-map, get_or-set_same, get_or-set_other, get_or_default, map_push}
use Rattle.std.proofs.lemmas.List.Kept.{Contains-dedup_nat, Contains-from_dedup}
use Rattle.std.proofs.lemmas.List.Sorted.{Contains-permutation, IsPermutation-sym}
use Rattle.std.proofs.lemmas.Map.Keys.{IsStrictlyIncreasing-dedup}
use Rattle.vk_resolution.proofs.Members.{contains_map, map_contains}
use Rattle.vk_model.specs.declared.plans.Item.{Item}
use Rattle.vk_order.specs.Needs.{listed_at, needs_of}
use Rattle.vk_model.specs.FaultViews.{item_view}
use Rattle.vk_order.specs.Moves.{AreRenumbered, StandOnce}
use Rattle.vk_order.specs.Arranging.{IsSameBut, AreSameBut}

pub renumbered_is : (places needs made sorted new : List ℕ) (i : ℕ) → made ≡ map (λ n. get_or places n 0) (take i needs) → length needs ≤ i → IsPermutation made sorted → IsSorted nat_cmp sorted → new ≡ dedup eqb sorted → AreRenumbered places needs new
renumbered_is places needs made sorted new i is all moved rises dense = record {
  rises = subst IsStrictlyIncreasing (sym dense) (IsStrictlyIncreasing-dedup sorted rises);
  to = λ n h. subst (λ l. Contains l (get_or places n 0)) (sym dense) (Contains-dedup_nat sorted (get_or places n 0) (Contains-permutation made sorted (get_or places n 0) moved (subst (λ l. Contains l (get_or places n 0)) (sym made_is) (map_contains (λ n. get_or places n 0) needs n h))));
  from = λ m h. (
      let r = contains_map (λ n. get_or places n 0) needs m (subst (λ l. Contains l m) made_is (Contains-permutation sorted made m (IsPermutation-sym made sorted moved) (Contains-from_dedup eqb sorted m (subst (λ l. Contains l m) dense h)))) in
      (r.0, r.1, r.2)
      );
}
  where
    made_is : made ≡ map (λ n. get_or places n 0) needs
    made_is = is ∙ ap (map (λ n. get_or places n 0)) (take_all i needs all)

-- the first items are renumbered, the others are as they were
pub record AreFirstRenumbered (places : List ℕ) (old new : List Item) (i : ℕ) : Type 0 where
  pub long : length new ≡ length old
  pub first : (k : ℕ) (d : Item) → k < i → IsSameBut places (item_view (get_or old k d)) (item_view (get_or new k d))
  pub rest : (k : ℕ) (d : Item) → i ≤ k → get_or new k d ≡ get_or old k d

pub one_renumbered : (places : List ℕ) (old new : List Item) (i : ℕ) (before after : Item) → i < length old → IsSameBut places (item_view (get_or new i before)) (item_view after) → AreFirstRenumbered places old new i → AreFirstRenumbered places old (set new i after) (i + 1)
one_renumbered places old new i before after within is are = record {
  long = length-set new i after ∙ are.long;
  first = λ k d below. elim (cases_lt k i) [
    | inl earlier ↦ (let other : k ≢ i = omega arith in subst (λ x. IsSameBut places (item_view (get_or old k d)) (item_view x)) (sym (get_or-set_other new i k after d other)) (are.first k d earlier))
    | inr later ↦ (
        let same : i ≡ k = omega arith in
        subst (λ n. IsSameBut places (item_view (get_or old n d)) (item_view (get_or (set new i after) n d))) same
        (subst (λ x. IsSameBut places (item_view (get_or old i d)) (item_view x)) (sym (get_or-set_same new i after d inside))
        (subst (λ x. IsSameBut places (item_view x) (item_view after)) (get_or_default new i before d inside ∙ are.rest i d (omega arith)) is))
        )
  ];
  rest = λ k d up. (let other : k ≢ i = omega arith in get_or-set_other new i k after d other ∙ are.rest k d (omega arith));
}
  where
    inside : i < length new
    inside = subst (λ n. i < n) (sym are.long) within

-- what is needed at the next item
pub next_below : (places : List ℕ) (old new : List Item) (i count : ℕ) (d : Item) → i < length old → AreFirstRenumbered places old new i → ((k j e : ℕ) → j < length (listed_at (needs_of old) k) → get_or (listed_at (needs_of old) k) j e < count)
    → (j e : ℕ) → j < length (get_or new i d).needs → get_or (get_or new i d).needs j e < count
next_below places old new i count d within are below =
    let same : listed_at (needs_of old) i ≡ (get_or new i d).needs = get_or-map (λ (item : Item). item.needs) old i d [] within ∙ ap (λ (item : Item). item.needs) (sym (are.rest i d (omega arith))) in
    subst (λ l. (j e : ℕ) → j < length l → get_or l j e < count) same (below i)

pub all_renumbered : (places : List ℕ) (old new : List Item) (i : ℕ) → length old ≤ i → AreFirstRenumbered places old new i → AreSameBut places (map item_view old) (map item_view new)
all_renumbered places old new i all are = record {
  long = length-map new item_view ∙ are.long ∙ sym (length-map old item_view);
  each = λ k d e within. (
      let low : k < length old = subst (λ n. k < n) (length-map old item_view) within in
      let high : k < length new = subst (λ n. k < n) (sym are.long) low in
      let o = item_in old k low in
      subst (λ x. IsSameBut places x (get_or (map item_view new) k e)) (sym (get_or-map item_view old k o d low))
      (subst (λ x. IsSameBut places (item_view (get_or old k o)) x) (sym (get_or-map item_view new k o e high)) (are.first k o (omega arith)))
      );
}
  where
    item_in : (is : List Item) (k : ℕ) → k < length is → Item
    item_in [] k within = absurd (omega arith)
    item_in (x ∷ xs) k within = x

-- ---- things that are taken one by one

module _ {T : Type 0} (things : List T) (order : List ℕ) where
  pub record AreTaken (i : ℕ) (there : List (Option T)) (moved : List T) : Type 0 where
    pub long : length there ≡ length things
    pub left : (j : ℕ) → i ≤ j → j < length order → get_or there (get_or order j 0) None ≡ slice_get things (get_or order j 0)
    pub taken : map Some moved ≡ map (slice_get things) (take i order)

  pub one_taken : (i n : ℕ) (there before after past : List (Option T)) (moved new : List T) (x : T) → StandOnce order → i < length order → before ≡ there → length before ≡ n → get_or before (get_or order i 0) None ≡ Some x → after ≡ set before (get_or order i 0) None
      → new ≡ moved ++ x ∷ [] → AreTaken i there moved → AreTaken (i + 1) (take n (after ++ past)) new
  one_taken i n there before after past moved new x once within same size here is put are = record {
    long = ap length written ∙ length-set there (get_or order i 0) None ∙ are.long;
    left = λ j up low. (
        let less : i < j = omega arith in
        let other : get_or order j 0 ≢ get_or order i 0 = λ e. once i j 0 less low (sym e) in
        ap (λ l. get_or l (get_or order j 0) None) written ∙ get_or-set_other there (get_or order i 0) (get_or order j 0) None None other ∙ are.left j (omega arith) low
        );
    taken = (
        let was : slice_get things (get_or order i 0) ≡ Some x = sym (are.left i (omega arith) within) ∙ ap (λ l. get_or l (get_or order i 0) None) (sym same) ∙ here in
        ap (map Some) put ∙ map_push Some moved x ∙ ap (λ l. l ++ Some x ∷ []) are.taken ∙ ap (λ o. map (slice_get things) (take i order) ++ o ∷ []) (sym was) ∙ sym (map_push (slice_get things) (take i order) (get_or order i 0)) ∙ ap (map (slice_get things)) (sym (take_more order i 0 within))
        );
  }
    where
      written : take n (after ++ past) ≡ set there (get_or order i 0) None
      written = take_at after past n (ap length is ∙ length-set before (get_or order i 0) None ∙ size) ∙ is ∙ ap (λ l. set l (get_or order i 0) None) same
