-- Numbers of an option.
use Rattle.std.proofs.Common.{◌≡◌, ◌<◌, ◌≤◌, ◌^◌, ℕ, List, inl, inr, refl, ap, sym, subst, ◌∙◌, arith}
use Rattle.std.specs.Prelude.{Some, None, bytes_eq}
use Rattle.std.specs.Fmt.{decimal}
use Rattle.std.specs.Str.Parse.{digits_value}
use Rattle.std.proofs.lemmas.Bool.{cases_lt, cases_Bool}
use Rattle.std.proofs.lemmas.Bool.Decides.{nat_tests}
use Rattle.std.proofs.lemmas.Fmt.{digits_value-decimal}
use Rattle.std.proofs.lemmas.Str.Parse.{numerals_by_value, tells_digits}
use Rattle.std.proofs.lemmas.Slice.Eq.{bytes_eq-Decides}
use Rattle.vk_words.specs.Values.{within, number_in}
use Rattle.vk_words.specs.Laws.{NumbersAreDecimal, DecimalsAreNumbers}

-- what has these decimal digits is what they say
digits_are : (n : ℕ) (text : List ℕ) → n < 2 ^ 32 → decimal n ≡ text → digits_value 10 text ≡ n
digits_are n text small e =
    ap (digits_value 10) (sym e) ∙ digits_value-decimal (numerals_by_value _ tells_digits) n (omega (arith, small))

-- the number of these decimal digits
pub number_is : (most n : ℕ) (text : List ℕ) → n < 2 ^ 32 → decimal n ≡ text
    → within most n ≡ number_in most text
number_is most n text small e =
    let same = digits_are n text small e in
    let alike = (bytes_eq-Decides (decimal n) text).1 e in
    rw (same, alike) refl

past_most : (most n : ℕ) → most < n → None ≡ within most n
past_most most n past = grind (arith, nat_tests)

no_few : (most : ℕ) (text : List ℕ) → most < 2 ^ 32
    → ((n : ℕ) → n < 2 ^ 32 → decimal n ≡ text → ⊥) → decimal (digits_value 10 text) ≡ text
    → None ≡ within most (digits_value 10 text)
no_few most text small none same =
    elim (cases_lt most (digits_value 10 text)) [
      | inl past ↦ past_most most (digits_value 10 text) past
      | inr few ↦ absurd (none (digits_value 10 text) (omega (arith, small, few)) same)
    ]

-- a text that is no number's
pub no_number : (most : ℕ) (text : List ℕ) → most < 2 ^ 32
    → ((n : ℕ) → n < 2 ^ 32 → decimal n ≡ text → ⊥) → None ≡ number_in most text
no_number most text small none =
    elim (cases_Bool (bytes_eq (decimal (digits_value 10 text)) text)) [
      | inl same ↦ rw same (no_few most text small none ((bytes_eq-Decides _ text).0 same))
      | inr other ↦ rw other refl
    ]

-- ---- both ways

within_is : (most n : ℕ) → 1 ≤ n → n ≤ most → within most n ≡ Some n
within_is most n some few = grind (arith, nat_tests)

within_told : (most m n : ℕ) → within most m ≡ Some n → (m ≡ n) × (1 ≤ n) × (n ≤ most)
within_told most m n is =
    elim (cases_lt m 1) [
      | inl none ↦ (let no : within most m ≡ None = grind (arith, nat_tests) in let clash : None ≡ Some n = sym no ∙ is in (cc))
      | inr some ↦ (
          elim (cases_lt most m) [
            | inl past ↦ (let clash : None ≡ Some n = past_most most m past ∙ is in (cc))
            | inr few ↦ (
                let same : Some m ≡ Some n = sym (within_is most m some few) ∙ is in
                let e : m ≡ n = (cc) in
                (e, subst (λ k. 1 ≤ k) e some, subst (λ k. k ≤ most) e few))
          ])
    ]

pub decimals_are_numbers : DecimalsAreNumbers
decimals_are_numbers most n text small e some few =
    sym (number_is most n text (omega (arith, small, few)) e) ∙ within_is most n some few

pub numbers_are_decimal : NumbersAreDecimal
numbers_are_decimal most n text small is =
    elim (cases_Bool (bytes_eq (decimal (digits_value 10 text)) text)) [
      | inl same ↦ (
          let told = within_told most (digits_value 10 text) n (rw same at is) in
          (subst (λ k. decimal k ≡ text) told.0 ((bytes_eq-Decides _ text).0 same), told.1, told.2))
      | inr other ↦ (let no : None ≡ Some n = rw other at is in (cc))
    ]
