-- A number in four digits, as it is printed, and as a part of a path.
use Rattle.std.proofs.Common.{◌≡◌, ◌<◌, ◌≤◌, ◌+◌, ◌-◌, ◌/◌, ◌%◌, ◌^◌, ◌++◌, ℕ, [], ◌∷◌, inl, inr, ap, ◌∙◌, arith}
use Rattle.std.specs.Fmt.{decimal, padded_integral, styled_decimal, format_spec, char_count}
use Rattle.std.proofs.lemmas.Bool.{cases_lt}
use Rattle.std.proofs.lemmas.Fmt.{decimal_digit, decimal_step}
use Rattle.vk_gen.specs.Loads.{four_digits}

two : (n : ℕ) → 10 ≤ n → n < 100 → decimal n ≡ (48 + n / 10) ∷ (48 + n % 10) ∷ []
two n low high = decimal_step n low (omega arith) ∙ ap (λ ds. ds ++ (48 + n % 10) ∷ []) (decimal_digit (n / 10) (omega arith))

three : (n : ℕ) → 100 ≤ n → n < 1000 → decimal n ≡ (48 + n / 10 / 10) ∷ (48 + n / 10 % 10) ∷ (48 + n % 10) ∷ []
three n low high = decimal_step n (omega arith) (omega arith) ∙ ap (λ ds. ds ++ (48 + n % 10) ∷ []) (two (n / 10) (omega arith) (omega arith))

four : (n : ℕ) → 1000 ≤ n → n < 10000 → decimal n ≡ (48 + n / 10 / 10 / 10) ∷ (48 + n / 10 / 10 % 10) ∷ (48 + n / 10 % 10) ∷ (48 + n % 10) ∷ []
four n low high = decimal_step n (omega arith) (omega arith) ∙ ap (λ ds. ds ++ (48 + n % 10) ∷ []) (three (n / 10) (omega arith) (omega arith))

alike : {a b c d e f g h : ℕ} → a ≡ e → b ≡ f → c ≡ g → d ≡ h → a ∷ b ∷ c ∷ d ∷ [] ≡ e ∷ f ∷ g ∷ h ∷ []
alike p q r s i = p i ∷ q i ∷ r i ∷ s i ∷ []

-- what `{:04}` writes
pub in_four_digits : (n : ℕ) → n < 10000 → styled_decimal (format_spec 32 0 4 4 (2 ^ 64 - 1)) n ≡ four_digits n
unfolding padded_integral char_count
in_four_digits n small =
    elim (cases_lt n 10) [
      | inl one ↦ rw (decimal_digit n one) (alike (omega arith) (omega arith) (omega arith) (omega arith))
      | inr ten ↦ elim (cases_lt n 100) [
        | inl below ↦ rw (two n ten below) (alike (omega arith) (omega arith) (omega arith) (omega arith))
        | inr hundred ↦ elim (cases_lt n 1000) [
          | inl below ↦ rw (three n hundred below) (alike (omega arith) (omega arith) (omega arith) (omega arith))
          | inr thousand ↦ rw (four n thousand small) (alike (omega arith) (omega arith) (omega arith) (omega arith))
        ]
      ]
    ]
