-- A pattern's text cut at its first star.
use Rattle.std.proofs.Common.{Bor, ◌≡◌, ◌<◌, ℕ, Bool, true, false, List, [], ◌∷◌, length, ltb, inl}
use Rattle.std.proofs.Common.{inr, refl, ◌∙◌, arith}
use Rattle.std.specs.Prelude.{Option, Some, None, MatchOption}
use Rattle.std.specs.List.{list_any, position_or_len, before_first, after_first}
use Rattle.std.proofs.lemmas.Bool.{cases_Bool, lt-ltb, le-ltb}
use Rattle.std.proofs.lemmas.Bool.Decides.{nat_tests}
use Rattle.vk_config.specs.Patterns.{is_star}

-- an element passes exactly where there is a first one
any_at : {X : Type 0} (p : X → Bool) (xs : List X)
    → list_any p xs ≡ ltb (position_or_len p xs) (length xs)
any_at p [] = refl
any_at p (x ∷ xs) =
    elim (cases_Bool (p x)) [
      | inl here ↦ rw (here, lt-ltb 0 (length (x ∷ xs)) (omega arith)) refl
      | inr other ↦ rw (other, any_at p xs) (grind (arith, nat_tests))
    ]

pub star_cut : (text : List ℕ) (r : Option (Bor (List ℕ) × Bor (List ℕ)))
    → MatchOption r (position_or_len is_star text ≡ length text)
    (λ x. (position_or_len is_star text < length text) × (x.0.now ≡ before_first is_star text)
    × (x.1.now ≡ after_first is_star text))
    → MatchOption r (list_any is_star text ≡ false)
    (λ x. (list_any is_star text ≡ true) × (x.0.now ≡ before_first is_star text)
    × (x.1.now ≡ after_first is_star text))
star_cut text None h = any_at is_star text ∙ le-ltb _ _ (omega (arith, h))
star_cut text (Some x) h = (any_at is_star text ∙ lt-ltb _ _ h.0, h.1, h.2)
