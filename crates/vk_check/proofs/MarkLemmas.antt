-- Marks on lines: none, one more, and more.
use Rattle.std.proofs.Common.{◌≡◌, ◌≢◌, ◌<◌, ◌⊎◌, ◌↔◌, ◌||◌, ℕ, zero, suc, Bool, true, false, List, [], ◌∷◌, ◌++◌, length, set, get_or, inl, inr, ap, sym, ◌∙◌, subst, arith}
use Rattle.std.specs.Prelude.{Some, slice_get, replicate}
use Rattle.std.specs.List.{Contains}
use Rattle.std.proofs.lemmas.List.{get_or-set_same, get_or-set_other}
use Rattle.std.proofs.lemmas.List.Elements.{Contains-append_left, Contains-append_right, Contains-append_cases}
use Rattle.vk_spec.specs.Lists.{NoRepeats}
use Rattle.vk_spec.proofs.ListLemmas.{contains_nothing, contains_first}
use Rattle.vk_resolution.specs.Reasons.{Reason, facts_of, fact_at}
use Rattle.vk_resolution.proofs.Members.{contains_single, or_true, or_left, or_right}
use Rattle.vk_resolution.proofs.LineLemmas.{one_line}
use Rattle.vk_check.specs.Certifying.{IsMarked, MarksMore}

pub none_marked : (k n : ℕ) → IsMarked (replicate k false) n → ⊥
none_marked zero n e = (cc)
none_marked (suc k) zero e = (cc)
none_marked (suc k) (suc n) e = none_marked k n e

-- ---- more

pub marks_nothing : (lines : List Reason) (marks : List Bool) → MarksMore lines marks marks []
marks_nothing lines marks = record { each = λ n r at. ((λ m. inl m), λ e. elim e [ inl m ↦ m | inr none ↦ absurd (contains_nothing r none) ]) }

pub marks_then : (lines : List Reason) (a b c : List Bool) (one two : List Reason) → MarksMore lines a b one → MarksMore lines b c two → MarksMore lines a c (two ++ one)
marks_then lines a b c one two r s = record {
  each = λ n q at. (
    (λ m. elim ((s.each n q at).0 m) [
      | inl old ↦ elim ((r.each n q at).0 old) [ inl older ↦ inl older | inr noted ↦ inr (Contains-append_right two one q noted) ]
      | inr noted ↦ inr (Contains-append_left two one q noted)
    ]),
    λ e. elim e [
      | inl old ↦ (s.each n q at).1 (inl ((r.each n q at).1 (inl old)))
      | inr noted ↦ elim (Contains-append_cases two one q noted) [
        | inl later ↦ (s.each n q at).1 (inr later)
        | inr earlier ↦ (s.each n q at).1 (inl ((r.each n q at).1 (inr earlier)))
      ]
    ],
  );
}

-- ---- one more

fact_get : (lines : List Reason) (n : ℕ) (r : Reason) → slice_get lines n ≡ Some r → fact_at (facts_of lines) (suc n) ≡ Some r.fact
fact_get [] n r e = (cc)
fact_get (q ∷ lines) zero r e = let same : q ≡ r = (cc) in ap (λ (p : Reason). Some p.fact) same
fact_get (q ∷ lines) (suc n) r e = fact_get lines n r e

one_place : (lines : List Reason) → NoRepeats (facts_of lines) → (m n : ℕ) (r q : Reason) → slice_get lines m ≡ Some r → slice_get lines n ≡ Some q → r.fact ≡ q.fact → m ≡ n
one_place lines distinct m n r q at_m at_n same =
    let e : suc m ≡ suc n = one_line (facts_of lines) distinct (suc m) (suc n) q.fact (fact_get lines m r at_m ∙ ap Some same) (fact_get lines n q at_n) in
    omega (arith, e)

same_at : (lines : List Reason) (n m : ℕ) (q s : Reason) → slice_get lines n ≡ Some q → slice_get lines m ≡ Some s → m ≡ n → s ≡ q
same_at lines n m q s at_n at_m same = let both : Some s ≡ Some q = sym at_m ∙ ap (slice_get lines) same ∙ at_n in (cc)

nat_same : (m n : ℕ) → (m ≡ n) ⊎ (m ≢ n)
nat_same m n = grind arith

-- a line is marked besides, where it is this reason
pub marks_one : (lines : List Reason) → NoRepeats (facts_of lines) → (marks : List Bool) (n : ℕ) (q r : Reason) (also : Bool) → slice_get lines n ≡ Some q → q.fact ≡ r.fact → n < length marks → (also ≡ true) ↔ (q.cause ≡ r.cause)
    → MarksMore lines marks (set marks n (get_or marks n false || also)) (r ∷ [])
marks_one lines distinct marks n q r also at same within test = record {
  each = λ m s at_m. elim (nat_same m n) [
    | inr other ↦ (
      (λ marked. inl (sym (get_or-set_other marks n m (get_or marks n false || also) false other) ∙ marked)),
      λ e. elim e [
        | inl old ↦ get_or-set_other marks n m (get_or marks n false || also) false other ∙ old
        | inr noted ↦ absurd (other (one_place lines distinct m n s q at_m at (sym (ap (λ (p : Reason). p.fact) (contains_single r s noted)) ∙ sym same)))
      ],
    )
    | inl here ↦ (
      (λ marked. elim (or_true (get_or marks n false) also (sym (value m here) ∙ marked)) [
        | inl old ↦ inl (ap (λ k. get_or marks k false) here ∙ old)
        | inr passes ↦ inr (subst (Contains (r ∷ [])) (sym (is m s at_m here passes)) (contains_first r []))
      ]),
      λ e. value m here ∙ elim e [
        | inl old ↦ or_left (get_or marks n false) also (sym (ap (λ k. get_or marks k false) here) ∙ old)
        | inr noted ↦ or_right (get_or marks n false) also (test.1 (ap (λ (p : Reason). p.cause) (sym (same_at lines n m q s at at_m here) ∙ sym (contains_single r s noted))))
      ],
    )
  ];
}
  where
    value : (m : ℕ) → m ≡ n → get_or (set marks n (get_or marks n false || also)) m false ≡ (get_or marks n false || also)
    value m here = ap (λ k. get_or (set marks n (get_or marks n false || also)) k false) here ∙ get_or-set_same marks n (get_or marks n false || also) false within

    is : (m : ℕ) (s : Reason) → slice_get lines m ≡ Some s → m ≡ n → also ≡ true → s ≡ r
    is m s at_m here passes =
        let one : s ≡ q = same_at lines n m q s at at_m here in
        let cause : q.cause ≡ r.cause = test.0 passes in
        let other : q ≡ r = λ k. record { fact = same k; cause = cause k } in
        one ∙ other
