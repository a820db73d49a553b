-- A number and its digits.
use Rattle.std.proofs.Common.{◌≡◌, ◌≢◌, ◌==◌, ◌↔◌, ◌<◌, ◌^◌, ◌+◌, ◌%◌, ◌∷◌, ℕ, true, false, List, [], sym, ap, ◌∙◌, arith}
use Rattle.std.proofs.lemmas.Fmt.{decimal_by_steps}
use Rattle.std.proofs.lemmas.List.Elements.{All-nil, All-cons, All-append}
use Rattle.std.specs.List.{All}
use Rattle.vk_base.specs.Paths.{Lacks}
use Rattle.vk_base.specs.Tokens.{IsPlain}
use Rattle.std.specs.Prelude.{Some, IsTrue, decimal}
use Rattle.std.proofs.lemmas.Bool.Decides.{nat_tests}

pub same_number : (n number : ℕ) (text : List ℕ) → decimal n ≡ text → (decimal number ≡ text → Some n ≡ Some number) → IsTrue (n == number) ↔ (text ≡ decimal number)
same_number n number text found known = (
  λ same. let is : n ≡ number = grind (arith, nat_tests) in sym found ∙ ap decimal is,
  λ e. let some : Some n ≡ Some number = known (sym e) in let is : n ≡ number = (cc) in grind (arith, nat_tests),
)

pub no_number : (number : ℕ) (text : List ℕ) → (decimal number ≡ text → ⊥) → IsTrue false ↔ (text ≡ decimal number)
no_number number text none = ((λ same. absurd (none (let clash : false ≡ true = same in (cc)))), (λ e. absurd (none (sym e))))

-- digits are no blanks, and no other mark below them
pub decimal_lacks : (mark n : ℕ) → n < 2 ^ 32 → mark < 48 → Lacks mark (decimal n)
decimal_lacks mark n small low = decimal_by_steps (λ m ds. Lacks mark ds)
    (λ m one. All-cons (λ c. c ≢ mark) (48 + m) [] (λ e. absurd (omega (arith, e, low))) (All-nil (λ c. c ≢ mark)))
    (λ m ds more rest. All-append (λ c. c ≢ mark) ds ((48 + m % 10) ∷ []) rest (All-cons (λ c. c ≢ mark) (48 + m % 10) [] (λ e. absurd (omega (arith, e, low))) (All-nil (λ c. c ≢ mark))))
    n (omega (arith, small))

pub decimal_plain : (n : ℕ) → n < 2 ^ 32 → All IsPlain (decimal n)
decimal_plain n small = decimal_by_steps (λ m ds. All IsPlain ds)
    (λ m one. All-cons IsPlain (48 + m) [] (omega arith, omega (arith, one)) (All-nil IsPlain))
    (λ m ds more rest. All-append IsPlain ds ((48 + m % 10) ∷ []) rest (All-cons IsPlain (48 + m % 10) [] (omega arith, omega arith) (All-nil IsPlain)))
    n (omega (arith, small))
