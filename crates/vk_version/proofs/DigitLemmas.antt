-- What digits say, and the decimal digits that a number has.
use Rattle.std.proofs.Common.{◌≡◌, ◌<◌, ◌≤◌, ◌^◌, ◌==◌, ◌||◌, ℕ, not, true, false, List, [], ◌∷◌, length}
use Rattle.std.proofs.Common.{get_or, Result, Ok, Err, refl, ap, sym, ◌∙◌, arith, rules, inl, inr}
use Rattle.std.specs.Prelude.{nat_lt, IsOk, MatchResult}
use Rattle.std.specs.Char.{is_ascii_digit}
use Rattle.std.specs.Fmt.{decimal}
use Rattle.std.specs.List.{list_all}
use Rattle.std.specs.Str.{IsUtf8}
use Rattle.std.specs.Str.Parse.{ParsesUnsigned, digits_value}
use Rattle.std.proofs.lemmas.Bool.{cases_lt, lt-ltb, le-ltb, and_parts}
use Rattle.std.proofs.lemmas.Bool.Decides.{nat_tests}
use Rattle.std.proofs.lemmas.Str.{IsUtf8-from_ascii}
use Rattle.std.proofs.lemmas.Str.Parse.{IsNumeralModel, numerals_by_value, digits_value_short}
use Rattle.std.proofs.lemmas.Str.Parse.{parse_gives}
use Rattle.std.proofs.lemmas.Fmt.{IsAscii-from_digits, digits_decimal, digits_value-decimal}
use Rattle.std.proofs.lemmas.Fmt.{decimal_digit, first_decimal, decimal_nonempty}
use Rattle.std.proofs.lemmas.Fmt.{decimal-digits_value}
use Rattle.vk_version.specs.Texts.{is_number, number_of}

pub own : IsNumeralModel (λ ds. list_all is_ascii_digit ds ≡ true) (digits_value 10)
own = numerals_by_value _ (search rules)

IsUtf8-from_digits : (ds : List ℕ) → list_all is_ascii_digit ds ≡ true → IsUtf8 ds
IsUtf8-from_digits ds each = IsUtf8-from_ascii ds (IsAscii-from_digits ds (own.to ds each))

pub text_there : {A E : Type 0} (P : A → Type 0) (Q : E → Type 0) (ds : List ℕ) (r : Result A E)
    → list_all is_ascii_digit ds ≡ true → MatchResult r P (λ e. ¬ IsUtf8 ds × Q e) → IsOk r
text_there P Q ds (Ok text) each told = refl
text_there P Q ds (Err fault) each told = absurd (told.0 (IsUtf8-from_digits ds each))

-- ---- the digits of a number

number_from : (ds : List ℕ) → 0 < length ds → 48 < get_or ds 0 0 → list_all is_ascii_digit ds ≡ true
    → is_number ds ≡ true
number_from [] some first each = absurd (omega arith)
number_from (b ∷ rest) some first each = rw each (grind (arith, nat_tests))

pub decimal_number : (n : ℕ) → n < 2 ^ 64 → is_number (decimal n) ≡ true
decimal_number n fits =
    elim (cases_lt n 10) [
      | inl small ↦ rw (decimal_digit n small) (grind (arith, nat_tests))
      | inr large ↦
          number_from (decimal n) (decimal_nonempty n fits) (first_decimal n (omega arith) fits)
          (digits_decimal own n fits)
    ]

-- a number's text is the decimal digits of what it says
pub number_digits : (ds : List ℕ) → is_number ds ≡ true → number_of ds < 2 ^ 64
    → decimal (number_of ds) ≡ ds
number_digits [] e fits = (cc)
number_digits (b ∷ bs) e fits =
    let es = and_parts (not (b == 48) || length bs == 0) (list_all is_ascii_digit (b ∷ bs)) e in
    decimal-digits_value own (b ∷ bs) es.1 (omega arith) (λ z. grind (arith, nat_tests)) fits

-- so what has these decimal digits is what they say
pub digits_number : (n : ℕ) (ds : List ℕ) → n < 2 ^ 64 → decimal n ≡ ds → number_of ds ≡ n
digits_number n ds small e = ap number_of (sym e) ∙ digits_value-decimal own n small

-- what a reader of decimals finds is what a number says, and it finds none that is too large
pub number_found : (ds : List ℕ) (n most : ℕ) → n < 2 ^ 64 → n < most → decimal n ≡ ds
    → (nat_lt (number_of ds) most ≡ true) × (number_of ds ≡ n)
number_found ds n most wide small e =
    let same = digits_number n ds wide e in (lt-ltb _ _ (omega (arith, same, small)), same)

pub number_past : (ds : List ℕ) (most : ℕ) → most ≤ 2 ^ 64 → is_number ds ≡ true
    → ((n : ℕ) → n < most → decimal n ≡ ds → ⊥) → nat_lt (number_of ds) most ≡ false
number_past ds most wide e none =
    elim (cases_lt (number_of ds) most) [
      | inl fits ↦ absurd (none _ fits (number_digits ds e (omega (arith, wide, fits))))
      | inr large ↦ le-ltb _ _ large
    ]

-- ---- few digits

-- so many digits say a number below that power of ten
pub digits_below : (ds : List ℕ) → list_all is_ascii_digit ds ≡ true → number_of ds < 10 ^ length ds
digits_below ds each = digits_value_short own ds (length ds) each (omega arith)

-- `parse` reads four of them
pub few_parsed : {E : Type 0} (ds text : List ℕ) (r : Result ℕ E) → text ≡ ds
    → ParsesUnsigned 64 10 text r → 0 < length ds → length ds ≤ 4
    → list_all is_ascii_digit ds ≡ true → r ≡ Ok (number_of ds)
few_parsed {E} ds text r same h some few each =
    let small = digits_value_short own ds 4 each few in
    parse_gives own {E = E} 64 ds r (rw same at h) each some (omega (arith, small))
