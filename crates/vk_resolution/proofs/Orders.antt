-- Lists in order by their keys.
use Rattle.std.proofs.Common.{◌≡◌, ◌⊎◌, List, [], ◌∷◌, inl, inr, refl, ap, sym, ◌∙◌, subst}
use Rattle.std.specs.Prelude.{Decides}
use Rattle.std.specs.declared.cmp.Ordering.{Ordering}
use Rattle.std.specs.declared.cmp.Ordering.TheVariants.{Less, Equal, Greater}
use Rattle.std.specs.Ordering.{ordering_reverse}
use Rattle.std.specs.Cmp.{tied_itself}
use Rattle.std.specs.Cmp.Lexicographic.{pointwise_decides, bytes_decides}
use Rattle.std.specs.List.{Contains}
use Rattle.vk_spec.specs.Lists.{NoRepeats}
use Rattle.vk_spec.proofs.ListLemmas.{contains_nothing, contains_first, contains_later, contains_cases}
use Rattle.vk_spec.proofs.FileLemmas.{path_total, path_same}
use Rattle.vk_resolution.specs.Keys.{Key, key_cmp, same_key, IsKey, Ascends, IsListing, put_by, put_in, in_order}
use Rattle.vk_resolution.proofs.Members.{contains_single}

pub same_key-Decides : (k l : Key) → Decides (same_key k l) (k ≡ l)
same_key-Decides = pointwise_decides bytes_decides

-- a key is not before itself
pub before_itself : (k : Key) → key_cmp k k ≡ Less → ⊥
before_itself k e = let clash : Equal ≡ Less = sym (tied_itself path_total k) ∙ e in (cc)

pub turned : (k l : Key) → key_cmp k l ≡ Greater → key_cmp l k ≡ Less
turned k l e = path_total.antisymm l k ∙ ap ordering_reverse e

pub turned_back : (k l : Key) → key_cmp k l ≡ Less → key_cmp l k ≡ Greater
turned_back k l e = path_total.antisymm l k ∙ ap ordering_reverse e

pub before_both : (k l : Key) → key_cmp k l ≡ Less → key_cmp l k ≡ Less → ⊥
before_both k l e f = before_itself k (path_total.trans k l k e f)

module _ {X : Type 0} (key : X → Key) where
  put_cases : (x y z : X) (ys : List X) (o : Ordering) → key_cmp (key x) (key y) ≡ o → ((h : Contains (put_in key x ys) z) → (x ≡ z) ⊎ Contains ys z) → Contains (put_by o x y ys (put_in key x ys)) z → (x ≡ z) ⊎ Contains (y ∷ ys) z
  put_cases x y z ys Less e rest h = contains_cases x z (y ∷ ys) h
  put_cases x y z ys Equal e rest h = inr h
  put_cases x y z ys Greater e rest h =
      elim (contains_cases y z (put_in key x ys) h) [
        | inl same ↦ inr (subst (Contains (y ∷ ys)) same (contains_first y ys))
        | inr later ↦ elim (rest later) [ inl new ↦ inl new | inr old ↦ inr (contains_later y z ys old) ]
      ]

  pub contains-put_in : (x z : X) (ys : List X) → Contains (put_in key x ys) z → (x ≡ z) ⊎ Contains ys z
  contains-put_in x z [] h = inl (contains_single x z h)
  contains-put_in x z (y ∷ ys) h = put_cases x y z ys (key_cmp (key x) (key y)) refl (contains-put_in x z ys) h

  put_old : (x y z : X) (ys : List X) (o : Ordering) → (Contains ys z → Contains (put_in key x ys) z) → Contains (y ∷ ys) z → Contains (put_by o x y ys (put_in key x ys)) z
  put_old x y z ys Less rest h = contains_later x z (y ∷ ys) h
  put_old x y z ys Equal rest h = h
  put_old x y z ys Greater rest h =
      elim (contains_cases y z ys h) [
        | inl same ↦ subst (Contains (y ∷ put_in key x ys)) same (contains_first y (put_in key x ys))
        | inr later ↦ contains_later y z (put_in key x ys) (rest later)
      ]

  pub put_in-keeps : (x z : X) (ys : List X) → Contains ys z → Contains (put_in key x ys) z
  put_in-keeps x z [] h = absurd (contains_nothing z h)
  put_in-keeps x z (y ∷ ys) h = put_old x y z ys (key_cmp (key x) (key y)) (put_in-keeps x z ys) h

  pub contains-in_order : (xs : List X) (z : X) → Contains (in_order key xs) z → Contains xs z
  contains-in_order [] z h = h
  contains-in_order (x ∷ xs) z h =
      elim (contains-put_in x z (in_order key xs) h) [
        | inl same ↦ subst (Contains (x ∷ xs)) same (contains_first x xs)
        | inr later ↦ contains_later x z xs (contains-in_order xs z later)
      ]

  put_ascends : (x y : X) (ys : List X) (o : Ordering) → key_cmp (key x) (key y) ≡ o → Ascends key (y ∷ ys) → Ascends key (put_in key x ys) → Ascends key (put_by o x y ys (put_in key x ys))
  put_ascends x y ys Less e old rest = (
    (λ z h. elim (contains_cases y z ys h) [
      | inl same ↦ subst (λ k. key_cmp (key x) (key k) ≡ Less) same e
      | inr later ↦ path_total.trans (key x) (key y) (key z) e (old.0 z later)
    ]),
    old,
  )
  put_ascends x y ys Equal e old rest = old
  put_ascends x y ys Greater e old rest = (
    (λ z h. elim (contains-put_in x z ys h) [
      | inl same ↦ subst (λ k. key_cmp (key y) (key k) ≡ Less) same (turned (key x) (key y) e)
      | inr later ↦ old.0 z later
    ]),
    rest,
  )

  pub put_in-ascends : (x : X) (ys : List X) → Ascends key ys → Ascends key (put_in key x ys)
  put_in-ascends x [] a = ((λ z h. absurd (contains_nothing z h)), tt)
  put_in-ascends x (y ∷ ys) a = put_ascends x y ys (key_cmp (key x) (key y)) refl a (put_in-ascends x ys a.1)

  pub in_order-ascends : (xs : List X) → Ascends key (in_order key xs)
  in_order-ascends [] = tt
  in_order-ascends (x ∷ xs) = put_in-ascends x (in_order key xs) (in_order-ascends xs)

  -- lists in order with the same members are one list
  pub ascending_one : (xs ys : List X) → Ascends key xs → Ascends key ys → ((z : X) → Contains xs z → Contains ys z) → ((z : X) → Contains ys z → Contains xs z) → xs ≡ ys
  ascending_one [] [] a b to from = refl
  ascending_one [] (y ∷ ys) a b to from = absurd (contains_nothing y (from y (contains_first y ys)))
  ascending_one (x ∷ xs) [] a b to from = absurd (contains_nothing x (to x (contains_first x xs)))
  ascending_one (x ∷ xs) (y ∷ ys) a b to from =
      let same : x ≡ y = elim (contains_cases y x ys (to x (contains_first x xs))) [
        | inl e ↦ sym e
        | inr later_x ↦ elim (contains_cases x y xs (from y (contains_first y ys))) [
          | inl e ↦ e
          | inr later_y ↦ absurd (before_both (key x) (key y) (a.0 y later_y) (b.0 x later_x))
        ]
      ] in
      let tails : xs ≡ ys = ascending_one xs ys a.1 b.1
      (λ z h. elim (contains_cases y z ys (to z (contains_later x z xs h))) [
        | inl e ↦ absurd (before_itself (key x) (subst (λ k. key_cmp (key x) (key k) ≡ Less) (sym (same ∙ e)) (a.0 z h)))
        | inr later ↦ later
      ])
      (λ z h. elim (contains_cases x z xs (from z (contains_later y z ys h))) [
        | inl e ↦ absurd (before_itself (key y) (subst (λ k. key_cmp (key y) (key k) ≡ Less) (sym (sym same ∙ e)) (b.0 z h)))
        | inr later ↦ later
      ]) in
      (cc)

  pub ascends-NoRepeats : (xs : List X) → Ascends key xs → NoRepeats xs
  ascends-NoRepeats [] a = tt
  ascends-NoRepeats (x ∷ xs) a = ((λ h. before_itself (key x) (a.0 x h)), ascends-NoRepeats xs a.1)

-- where different things have different keys, a list in order has all of them
module _ {X : Type 0} (key : X → Key) (is_key : IsKey key) where
  put_new : (x y : X) (ys : List X) (o : Ordering) → key_cmp (key x) (key y) ≡ o → Contains (put_in key x ys) x → Contains (put_by o x y ys (put_in key x ys)) x
  put_new x y ys Less e rest = contains_first x (y ∷ ys)
  put_new x y ys Equal e rest = subst (Contains (y ∷ ys)) (sym (is_key x y (path_same (key x) (key y) e))) (contains_first y ys)
  put_new x y ys Greater e rest = contains_later y x (put_in key x ys) rest

  pub put_in-contains : (x : X) (ys : List X) → Contains (put_in key x ys) x
  put_in-contains x [] = contains_first x []
  put_in-contains x (y ∷ ys) = put_new x y ys (key_cmp (key x) (key y)) refl (put_in-contains x ys)

  pub in_order-contains : (xs : List X) (z : X) → Contains xs z → Contains (in_order key xs) z
  in_order-contains [] z h = h
  in_order-contains (x ∷ xs) z h =
      elim (contains_cases x z xs h) [
        | inl same ↦ subst (Contains (in_order key (x ∷ xs))) same (put_in-contains x (in_order key xs))
        | inr later ↦ put_in-keeps key x z (in_order key xs) (in_order-contains xs z later)
      ]

  pub in_order-IsListing : (xs : List X) → IsListing key (Contains xs) (in_order key xs)
  in_order-IsListing xs = record { each = λ z. (contains-in_order key xs z, in_order-contains xs z); ascends = in_order-ascends key xs }
