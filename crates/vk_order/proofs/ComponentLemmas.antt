-- Components, and the climb by which they are found.
use Rattle.std.proofs.Common.{◌≡◌, ◌<◌, ◌≤◌, ◌+◌, ◌-◌, ℕ, suc, cond, List, [], ◌∷◌, ◌++◌, length, take, get_or, inl, inr, refl, ap, sym, ◌∙◌, subst, arith}
use Rattle.std.specs.Prelude.{Option, Some, None, is_some}
use Rattle.std.specs.List.{Contains}
use Rattle.std.proofs.lemmas.List.{length_push, take_more}
use Rattle.std.proofs.lemmas.List.Elements.{Contains-append_left, Contains-get_or, Contains-push_cases}
use Rattle.std.proofs.lemmas.List.Sums.{sum_by-cons}
use Rattle.vk_order.specs.Needs.{known_at, known_in}
use Rattle.vk_order.specs.Components.{component_at, AreLower}
use Rattle.vk_order.specs.Ways.{AreReached}
use Rattle.vk_order.proofs.NumberLemmas.{known_within, known_few}

lower_more : (named : List ℕ) (components : List (Option ℕ)) (n limit : ℕ) → component_at components n < limit → AreLower named components limit → AreLower (named ++ n ∷ []) components limit
lower_more named components n limit low are k h = elim (Contains-push_cases named n k h) [
  | inl old ↦ are k old
  | inr new ↦ subst (λ m. component_at components m < limit) new low
]

pub lower_step : (places : List ℕ) (components : List (Option ℕ)) (i limit : ℕ) → i < length places → component_at components (get_or places i 0) < limit → AreLower (take i places) components limit → AreLower (take (i + 1) places) components limit
lower_step places components i limit within low are = subst (λ l. AreLower l components limit) (sym (take_more places i 0 within)) (lower_more (take i places) components (get_or places i 0) limit low are)

known_step : (p q : Option ℕ) (xs ys : List (Option ℕ)) → ((m : ℕ) → p ≡ Some m → q ≡ Some m) → known_in xs ≤ known_in ys → known_in (p ∷ xs) ≤ known_in (q ∷ ys)
known_step p q xs ys here more = let one = sums p xs in let two = sums q ys in let three = both p q here in omega arith
  where
    sums : (z : Option ℕ) (zs : List (Option ℕ)) → known_in (z ∷ zs) ≡ cond (is_some z) 1 0 + known_in zs
    sums z zs = sum_by-cons (λ o. cond (is_some o) 1 0) z zs

    both : (p q : Option ℕ) → ((m : ℕ) → p ≡ Some m → q ≡ Some m) → cond (is_some p) 1 0 ≤ cond (is_some q) 1 0
    both None q here = omega arith
    both (Some m) q here = subst (λ o. 1 ≤ cond (is_some o) 1 0) (sym (here m refl)) (let one : 1 ≤ 1 = omega arith in one)

-- where all that is known stays, as many are known, or more
pub kept_few : (a b : List (Option ℕ)) → length b ≡ length a → ((k m : ℕ) → known_at a k ≡ Some m → known_at b k ≡ Some m) → known_in a ≤ known_in b
kept_few [] b size kept = omega arith
kept_few (x ∷ xs) [] size kept = absurd (omega (arith, size))
kept_few (x ∷ xs) (y ∷ ys) size kept = known_step x y xs ys (λ m. kept 0 m) (kept_few xs ys (omega (arith, size)) (λ k. kept (suc k)))

module _ (n number : ℕ) (named : List ℕ) (a b : List (Option ℕ)) (old next : List ℕ) (size : length a ≡ n) (below : (k d : ℕ) → k < length old → get_or old k d < n) (reached : AreReached named number a b old next) where
  pub reached_long : length b ≡ n
  reached_long = reached.long ∙ size

  old_below : (k : ℕ) → Contains old k → k < n
  old_below k h = subst (λ m. m < n) h.2 (below h.0 k h.1)

  pub reached_below : (k d : ℕ) → k < length next → get_or next k d < n
  reached_below k d within = elim (reached.next (get_or next k d) (Contains-get_or next k d within)) [
    | inl was ↦ old_below (get_or next k d) was
    | inr known ↦ subst (λ m. get_or next k d < m) reached_long (known_within b (get_or next k d) number known)
  ]

  pub reached_less : (left : ℕ) → left ≡ length old + 1 → (length b - known_in b) + (length b - known_in b) + length next < (length a - known_in a) + (length a - known_in a) + left
  reached_less left is =
      let one : known_in a ≤ known_in b = kept_few a b reached.long reached.kept in
      let two : known_in a ≤ length a = known_few a in
      let three : known_in b ≤ length b = known_few b in
      let four : length b ≡ length a = reached.long in
      let five : known_in b + length old ≡ known_in a + length next = reached.count in
      omega arith

-- what is left where one was taken from the end
module _ (n place : ℕ) (todo rest : List ℕ) (split : todo ≡ rest ++ place ∷ []) where
  pub rest_below : ((k d : ℕ) → k < length todo → get_or todo k d < n) → (k d : ℕ) → k < length rest → get_or rest k d < n
  rest_below below k d within =
      let h : Contains todo (get_or rest k d) = subst (λ l. Contains l (get_or rest k d)) (sym split) (Contains-append_left rest (place ∷ []) (get_or rest k d) (Contains-get_or rest k d within)) in
      subst (λ m. m < n) h.2 (below h.0 (get_or rest k d) h.1)

  pub rest_length : length todo ≡ length rest + 1
  rest_length = ap length split ∙ length_push rest place
