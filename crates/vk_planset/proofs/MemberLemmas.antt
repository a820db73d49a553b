-- Lists by their members: nothing more, and more and more.
use Rattle.std.proofs.Common.{◌≡◌, List, [], ◌∷◌, ◌++◌, map, inl, inr, subst}
use Rattle.std.specs.Prelude.{Result, Ok, Err, OnOk}
use Rattle.std.specs.declared.cmp.Ordering.{Ordering}
use Rattle.std.specs.declared.cmp.Ordering.TheVariants.{Less}
use Rattle.std.specs.List.{Contains, AllByRecursion}
use Rattle.std.specs.List.Sorted.{IsStrictlySortedBy}
use Rattle.std.proofs.lemmas.Map.Keys.{sorted_head, sorted_tail}
use Rattle.std.proofs.lemmas.List.Elements.{Contains-append_left, Contains-append_right, Contains-append_cases}
use Rattle.vk_spec.proofs.ListLemmas.{contains_nothing, contains_cases}
use Rattle.vk_resolution.specs.Keys.{Key, key_cmp, Ascends, IsKey, in_order}
use Rattle.vk_resolution.proofs.Members.{contains_map, contains_single}
use Rattle.vk_resolution.proofs.Orders.{contains-in_order, in_order-contains, in_order-ascends, ascending_one}
use Rattle.vk_planset.specs.Members.{HasMore, HaveSame}

module _ {X : Type 0} where
  pub nothing_more : (xs : List X) → HasMore xs [] xs
  nothing_more xs = record { keeps = λ x h. h; adds = λ x h. absurd (contains_nothing x h); only = λ x h. inl h }

  pub same_nothing : (xs : List X) → xs ≡ [] → HaveSame xs []
  same_nothing xs e = record { to = λ x h. subst (λ l. Contains l x) e h; from = λ x h. absurd (contains_nothing x h) }

  -- what is there already is nothing more
  pub known_more : (xs : List X) (x : X) → Contains xs x → HasMore xs (x ∷ []) xs
  known_more xs x h = record { keeps = λ y at. at; adds = λ y at. subst (Contains xs) (contains_single x y at) h; only = λ y at. inl at }

  pub more_last : (xs : List X) (x : X) → HasMore xs (x ∷ []) (xs ++ x ∷ [])
  more_last xs x = record {
    keeps = λ y h. Contains-append_left xs (x ∷ []) y h;
    adds = λ y h. Contains-append_right xs (x ∷ []) y h;
    only = λ y h. Contains-append_cases xs (x ∷ []) y h;
  }

  -- more of one than of the other
  pub same_more : (xs ys more new : List X) → HaveSame xs ys → HasMore xs more new → HaveSame new (ys ++ more)
  same_more xs ys more new same step = record {
    to = λ x h. elim (step.only x h) [ inl old ↦ Contains-append_left ys more x (same.to x old) | inr new ↦ Contains-append_right ys more x new ];
    from = λ x h. elim (Contains-append_cases ys more x h) [ inl old ↦ step.keeps x (same.from x old) | inr new ↦ step.adds x new ];
  }

  -- in order, the same members are one list
  pub order_one : (key : X → Key) → IsKey key → (xs ys : List X) → HaveSame xs ys → in_order key xs ≡ in_order key ys
  order_one key is xs ys same = ascending_one key (in_order key xs) (in_order key ys) (in_order-ascends key xs) (in_order-ascends key ys)
      (λ z h. in_order-contains key is ys z (same.to z (contains-in_order key xs z h)))
      (λ z h. in_order-contains key is xs z (same.from z (contains-in_order key ys z h)))

  -- a list that ascends is its members in order
  pub ascending_is : (key : X → Key) → IsKey key → (xs ys : List X) → Ascends key xs → HaveSame xs ys → xs ≡ in_order key ys
  ascending_is key is xs ys ascends same = ascending_one key xs (in_order key ys) ascends (in_order-ascends key ys)
      (λ z h. in_order-contains key is ys z (same.to z h))
      (λ z h. same.from z (contains-in_order key ys z h))

-- what follows where a call succeeds
pub done_means : {A E P Q : Type 0} (result : Result A E) → (P → Q) → OnOk result P → OnOk result Q
done_means (Ok x) f h = f h
done_means (Err e) f h = tt

-- ---- what is sorted, as it is seen

module _ {K X : Type 0} (cmp : K → K → Ordering) (view : K → X) where
  holds_of : (P : K → Type 0) (ks : List K) → AllByRecursion P ks → (k : K) → Contains ks k → P k
  holds_of P [] each k h = absurd (contains_nothing k h)
  holds_of P (l ∷ ks) each k h = elim (contains_cases l k ks h) [ inl same ↦ subst P same each.0 | inr later ↦ holds_of P ks each.1 k later ]

  -- what is strictly sorted ascends
  pub sorted_ascends : (key : X → Key) → ((k l : K) → cmp k l ≡ Less → key_cmp (key (view k)) (key (view l)) ≡ Less) → (ks : List K) → IsStrictlySortedBy cmp ks → Ascends key (map view ks)
  sorted_ascends key less [] sorted = tt
  sorted_ascends key less (k ∷ ks) sorted = (
    (λ v h. (
        let l = contains_map view ks v h in
        subst (λ w. key_cmp (key (view k)) (key w) ≡ Less) l.2 (less k l.0 (holds_of (λ m. cmp k m ≡ Less) ks (sorted_head cmp k ks sorted) l.0 l.1))
        )),
    sorted_ascends key less ks (sorted_tail cmp k ks sorted),
  )
