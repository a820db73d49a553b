-- The decimal digits of a number, and what `parse` reads of them.
use Rattle.std.proofs.Common.{◌≡◌, ◌<◌, ◌^◌, ◌==◌, ℕ, true, false, List, length, get_or}
use Rattle.std.proofs.Common.{Some, Result, Ok, Err, inl, inr, ap, sym, ◌∙◌, arith}
use Rattle.std.specs.Prelude.{IfSome}
use Rattle.std.specs.Fmt.{decimal}
use Rattle.std.specs.Result.{result_ok}
use Rattle.std.specs.Str.Parse.{ParsesUnsigned}
use Rattle.std.proofs.lemmas.Bool.{cases_lt}
use Rattle.std.proofs.lemmas.Bool.Decides.{nat_tests}
use Rattle.std.proofs.lemmas.Fmt.{decimal_digit, first_decimal, decimal-digits_value, parse-decimal}
use Rattle.std.proofs.lemmas.Str.Parse.{numerals_by_value, tells_digits}
use Rattle.vk_base.specs.Decimals.{is_padded}

-- a number's digits begin with no plus, and with a zero only where it stands alone
unpadded : (n : ℕ) → n < 2 ^ 64 → is_padded (decimal n) ≡ false
unpadded n small =
    elim (cases_lt n 10) [
      | inl one ↦ rw (decimal_digit n one) (grind (arith, nat_tests))
      | inr more ↦ (let first = first_decimal n (omega arith) small in grind (arith, nat_tests))
    ]

-- so padded digits are no number's
pub padded_none : (n : ℕ) (ds : List ℕ) → n < 2 ^ 64 → decimal n ≡ ds → is_padded ds ≡ true → ⊥
padded_none n ds small e padded = let plain = rw e at (unpadded n small) in let clash : true ≡ false = sym padded ∙ plain in (cc)

module _ (bits : ℕ) (wide : (n : ℕ) → n < 2 ^ bits → n < 2 ^ 64) where
  -- what `parse` reads of unpadded digits has them
  pub parsed_is : {E : Type 0} (ds : List ℕ) (r : Result ℕ E) → ParsesUnsigned bits 10 ds r
      → is_padded ds ≡ false → IfSome (result_ok r) (λ n. decimal n ≡ ds)
  parsed_is ds (Err e) h plain = tt
  parsed_is {E} ds (Ok n) h plain =
      let unsigned : (get_or ds 0 0 == 43) ≡ false = grind (arith, nat_tests) in
      let g = rw unsigned at h in
      let alone : get_or ds 0 0 ≡ 48 → length ds ≡ 1 = λ zero. grind (arith, nat_tests) in
      ap decimal g.1 ∙ decimal-digits_value (numerals_by_value _ tells_digits) ds g.0.0.1 g.0.0.0 alone (wide _ g.0.1)

  -- `parse` reads a number from its digits
  pub parsed_from : {E : Type 0} (ds : List ℕ) (r : Result ℕ E) → ParsesUnsigned bits 10 ds r
      → (n : ℕ) → n < 2 ^ bits → decimal n ≡ ds → result_ok r ≡ Some n
  parsed_from {E} ds r h n small e = ap result_ok (parse-decimal {E = E} bits n ds r small (wide n small) (sym e) h)

-- numbers of 32 bits have 64
pub wide32 : (n : ℕ) → n < 2 ^ 32 → n < 2 ^ 64
wide32 n small = omega (arith, small)

pub wide64 : (n : ℕ) → n < 2 ^ 64 → n < 2 ^ 64
wide64 n small = small
