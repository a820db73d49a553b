-- Heights that are found one by one.
use Rattle.std.proofs.Common.{◌≡◌, ◌<◌, ◌≤◌, ◌+◌, ℕ, zero, suc, Bool, true, false, cond, max, take, get_or, List, [], ◌∷◌, ◌++◌, length, set, inl, inr, refl, ap, sym, ◌∙◌, subst, arith}
use Rattle.std.specs.Prelude.{Option, Some, None, is_some}
use Rattle.std.specs.Ordering.{MatchOrdering, is_lt, nat_cmp, ord_max}
use Rattle.std.specs.Cmp.{ranks}
use Rattle.std.specs.declared.cmp.Ordering.{Ordering}
use Rattle.std.specs.declared.cmp.Ordering.TheVariants.{Less, Equal, Greater}
use Rattle.std.proofs.lemmas.List.{length-set, take_more}
use Rattle.std.proofs.lemmas.List.Elements.{Contains-append_left, Contains-push, Contains-push_cases}
use Rattle.std.proofs.lemmas.Bool.{cases_lt}
use Rattle.vk_order.specs.Needs.{listed_at, known_at, known_in}
use Rattle.vk_order.specs.Peeling.{IsAbove, IsHeld, AreRight}
use Rattle.vk_order.proofs.NumberLemmas.{known_kept, known_cases, known_more, known_few, none_from}

max_is : (a b : ℕ) (o : Ordering) → nat_cmp b a ≡ o → cond (is_lt o) a b ≡ max a b
max_is a b Less e = let r : b < a = subst (λ o. MatchOrdering o (b < a) (b ≡ a) (a < b)) e (ranks b a) in omega arith
max_is a b Equal e = let r : b ≡ a = subst (λ o. MatchOrdering o (b < a) (b ≡ a) (a < b)) e (ranks b a) in omega arith
max_is a b Greater e = let r : a < b = subst (λ o. MatchOrdering o (b < a) (b ≡ a) (a < b)) e (ranks b a) in omega arith

module _ (named : List ℕ) (heights : List (Option ℕ)) (n m : ℕ) (known : known_at heights n ≡ Some m) where
  pub above_more : (h : ℕ) → IsAbove named heights h → IsAbove (named ++ n ∷ []) heights (max h (m + 1))
  above_more h is = record {
    lower = λ k c. elim (Contains-push_cases named n k c) [
      | inl old ↦ (let r = is.lower k old in let below : r.0 < h = r.2 in let up : r.0 < max h (m + 1) = omega arith in (r.0, r.1, up))
      | inr new ↦ (let up : m < max h (m + 1) = omega arith in (m, subst (λ j. known_at heights j ≡ Some m) new known, up))
    ];
    next = λ l e. elim (cases_lt m h) [
      | inl less ↦ (let same : h ≡ suc l = omega arith in let r = is.next l same in (r.0, Contains-append_left named (n ∷ []) r.0 r.1, r.2))
      | inr more ↦ (let same : m ≡ l = omega arith in (n, Contains-push named n, known ∙ ap Some same))
    ];
  }

pub above_step : (needs : List ℕ) (heights : List (Option ℕ)) (i m h g : ℕ) → i < length needs → known_at heights (get_or needs i 0) ≡ Some m → IsAbove (take i needs) heights h → g ≡ ord_max nat_cmp h (m + 1) → IsAbove (take (i + 1) needs) heights g
above_step needs heights i m h g within known is e =
    subst (IsAbove (take (i + 1) needs) heights) (sym (e ∙ max_is h (m + 1) (nat_cmp (m + 1) h) refl))
    (subst (λ l. IsAbove l heights (max h (m + 1))) (sym (take_more needs i 0 within)) (above_more (take i needs) heights (get_or needs i 0) m known h is))

pub above_kept : (needs : List ℕ) (before after : List (Option ℕ)) (h : ℕ) → ((k m : ℕ) → known_at before k ≡ Some m → known_at after k ≡ Some m) → IsAbove needs before h → IsAbove needs after h
above_kept needs before after h kept is = record {
  lower = λ n c. (let r = is.lower n c in (r.0, kept n r.0 r.1, r.2));
  next = λ m e. (let r = is.next m e in (r.0, r.1, kept r.0 m r.2));
}

module _ (needs : List (List ℕ)) (heights : List (Option ℕ)) (k h : ℕ) (within : k < length heights) (new : known_at heights k ≡ None) (is : IsAbove (listed_at needs k) heights h) (right : AreRight needs heights) where
  new_few : (g : ℕ) → h ≡ g → h < known_in heights + 1
  new_few zero e = omega arith
  new_few (suc g) e = let r = is.next g e in let low : g < known_in heights = right.few r.0 g r.2 in omega arith

  pub right_more : AreRight needs (set heights k (Some h))
  right_more = record {
    long = length-set heights k (Some h) ∙ right.long;
    each = λ j m known. above_kept (listed_at needs j) heights (set heights k (Some h)) m (known_kept heights k h new) (elim (known_cases heights k h within j m known) [
      | inl here ↦ subst (λ i. IsAbove (listed_at needs i) heights m) (sym here.0) (subst (IsAbove (listed_at needs k) heights) (sym here.1) is)
      | inr old ↦ right.each j m old
    ]);
    few = λ j m known. (
        let more : known_in (set heights k (Some h)) ≡ known_in heights + 1 = known_more heights k h within new in
        elim (known_cases heights k h within j m known) [
          | inl here ↦ (let same : m ≡ h = here.1 in let low : h < known_in heights + 1 = new_few h refl in omega arith)
          | inr old ↦ (let low : m < known_in heights = right.few j m old in omega arith)
        ]
        );
  }

-- whether any height was found so far; where none was, what has none is held
abbrev pub IsMore : List (List ℕ) → ℕ → Bool → List (Option ℕ) → List (Option ℕ) → Type 0
IsMore needs i true before after = known_in before < known_in after
IsMore needs i false before after = (after ≡ before) × ((k : ℕ) → k < i → known_at before k ≡ None → IsHeld (listed_at needs k) before)

pub settled_right : (needs : List (List ℕ)) (heights : List (Option ℕ)) (k h : ℕ) (named : List ℕ) (t : Bool) → k < length needs → t ≡ is_some (known_at heights k) → t ≡ false → named ≡ listed_at needs k → IsAbove named heights h → AreRight needs heights
    → AreRight needs (set heights k (Some h))
settled_right needs heights k h named t within test no_height same is right =
    let size : length heights ≡ length needs = right.long in
    let inside : k < length heights = omega arith in
    right_more needs heights k h inside (none_from (known_at heights k) t test no_height) (subst (λ l. IsAbove l heights h) same is) right

-- a known height is below the count of items
pub height_fits : (needs : List (List ℕ)) (heights : List (Option ℕ)) → AreRight needs heights → (n h : ℕ) → known_at heights n ≡ Some h → h + 1 ≤ length needs
height_fits needs heights right n h known =
    let low : h < known_in heights = right.few n h known in
    let most : known_in heights ≤ length heights = known_few heights in
    let size : length heights ≡ length needs = right.long in
    omega arith
