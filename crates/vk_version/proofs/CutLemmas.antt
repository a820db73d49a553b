-- A list cut at the first element that passes a test.
use Rattle.std.proofs.Common.{◌≡◌, ◌+◌, ltb, length-drop, ◌<◌, Bool, true, false, List}
use Rattle.std.proofs.Common.{[], ◌∷◌, length, take, drop, inl, inr, refl, ap, sym, ◌∙◌, suc, arith}
use Rattle.std.specs.List.{list_any, position_or_len, before_first, after_first}
use Rattle.std.specs.List.{slice_split}
use Rattle.std.proofs.lemmas.Bool.{cases_lt, cases_Bool, lt-ltb, le-ltb, ltb-true, ltb-false}
use Rattle.std.proofs.lemmas.Bool.Decides.{nat_tests}
use Rattle.std.proofs.lemmas.List.{take_all, drop_all}
use Rattle.std.proofs.lemmas.List.Sums.{fails_before_first}
use Rattle.std.proofs.lemmas.List.Splits.{slice_split_none, slice_split_first}

-- an element passes exactly where there is a first one
pub any_at : {X : Type 0} (p : X → Bool) (xs : List X)
    → list_any p xs ≡ ltb (position_or_len p xs) (length xs)
any_at p [] = refl
any_at p (x ∷ xs) =
    elim (cases_Bool (p x)) [
      | inl here ↦ rw (here, lt-ltb 0 (length (x ∷ xs)) (omega arith)) refl
      | inr other ↦ rw (other, any_at p xs) (grind (arith, nat_tests))
    ]

pub none_passes : {X : Type 0} (p : X → Bool) (xs : List X) → position_or_len p xs ≡ length xs
    → (before_first p xs ≡ xs) × (list_any p xs ≡ false)
none_passes p xs e = (
  take_all (position_or_len p xs) xs (omega (arith, e)),
  any_at p xs
      ∙ le-ltb _ _ (omega (arith, e)),
)

pub one_passes : {X : Type 0} (p : X → Bool) (xs : List X) → position_or_len p xs < length xs
    → list_any p xs ≡ true
one_passes p xs at = any_at p xs ∙ lt-ltb _ _ at

-- nothing passes: nothing is cut off
pub nothing_cut : {X : Type 0} (p : X → Bool) (xs : List X) → list_any p xs ≡ false
    → (before_first p xs ≡ xs) × (drop (position_or_len p xs) xs ≡ []) × (after_first p xs ≡ [])
nothing_cut p xs none =
    elim (cases_lt (position_or_len p xs) (length xs)) [
      | inl at ↦ (let clash : true ≡ false = sym (one_passes p xs at) ∙ none in (cc))
      | inr past ↦ (
        take_all (position_or_len p xs) xs past,
        drop_all (position_or_len p xs) xs past,
        drop_all (position_or_len p xs + 1) xs (omega arith),
      )
    ]

-- the first element doesn't pass: the cut is further on
pub record IsLater {X : Type 0} (p : X → Bool) (x : X) (xs : List X) : Type 0 where
  pub before : before_first p (x ∷ xs) ≡ x ∷ before_first p xs
  pub from_there : drop (position_or_len p (x ∷ xs)) (x ∷ xs) ≡ drop (position_or_len p xs) xs
  pub after : after_first p (x ∷ xs) ≡ after_first p xs

pub later : {X : Type 0} (p : X → Bool) (x : X) (xs : List X) → p x ≡ false → IsLater p x xs
later p x xs other =
    let at : position_or_len p (x ∷ xs) ≡ suc (position_or_len p xs) = rw other (omega arith) in
    let next : position_or_len p (x ∷ xs) + 1 ≡ suc (position_or_len p xs + 1) =
    omega (arith, at) in
    record {
      before = ap (λ n. take n (x ∷ xs)) at;
      from_there = ap (λ n. drop n (x ∷ xs)) at;
      after = ap (λ n. drop n (x ∷ xs)) next;
    }

pub any_within : {X : Type 0} (p : X → Bool) (xs : List X) → list_any p xs ≡ true
    → position_or_len p xs < length xs
any_within p xs e = ltb-true _ _ (sym (any_at p xs) ∙ e)

-- nothing passes: the list is the one part
pub uncut : {X : Type 0} (p : X → Bool) (xs : List X) → list_any p xs ≡ false
    → slice_split p xs ≡ before_first p xs ∷ []
uncut p xs none =
    let whole = nothing_cut p xs none in
    let past = ltb-false _ _ (sym (any_at p xs) ∙ none) in
    slice_split_none p xs (λ k d within. fails_before_first p xs k d (omega arith))
    ∙ ap (λ ys. ys ∷ []) (sym whole.0)

-- something passes: the first part ends there
pub cut_at : {X : Type 0} (p : X → Bool) (xs : List X) (d : X) → list_any p xs ≡ true
    → slice_split p xs ≡ before_first p xs ∷ slice_split p (after_first p xs)
cut_at p xs d some = slice_split_first p xs d (any_within p xs some)

-- and what stands after it is shorter
pub after_shorter : {X : Type 0} (p : X → Bool) (xs : List X) → list_any p xs ≡ true
    → length (after_first p xs) < length xs
after_shorter p xs some =
    let within = any_within p xs some in rw length-drop (omega arith)
