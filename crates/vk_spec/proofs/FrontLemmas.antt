-- What is left after a first part.
use Rattle.std.proofs.Common.{Bor, ◌≡◌, ◌≢◌, ℕ, Bool, true, false, cond, eqb, List, [], ◌∷◌, ◌++◌, refl, ap, sym, ◌∙◌, arith}
use Rattle.std.specs.Prelude.{Option, Some, None, MatchOption, option_map}
use Rattle.std.specs.Str.Pattern.{FindsTextPrefix, StripsPrefix}
use Rattle.std.proofs.lemmas.Bool.Decides.{nat_tests}
use Rattle.vk_spec.specs.Fronts.{after}

pub after_front : (front rest : List ℕ) → after front (front ++ rest) ≡ Some rest
after_front [] rest = refl
after_front (f ∷ fs) rest = let same : eqb f f ≡ true = grind (arith, nat_tests) in ap (λ b. cond b (after fs (fs ++ rest)) None) same ∙ after_front fs rest

tested : (f b : ℕ) (fs bs rest : List ℕ) (test : Bool) → eqb f b ≡ test → cond test (after fs bs) None ≡ Some rest → (after fs bs ≡ Some rest → bs ≡ fs ++ rest) → b ∷ bs ≡ f ∷ (fs ++ rest)
tested f b fs bs rest true is found rec = let same : f ≡ b = grind (arith, nat_tests) in ap (λ x. x ∷ bs) (sym same) ∙ ap (λ l. f ∷ l) (rec found)
tested f b fs bs rest false is found rec = (cc)

pub after_rest : (front bytes rest : List ℕ) → after front bytes ≡ Some rest → bytes ≡ front ++ rest
after_rest [] bytes rest e = (cc)
after_rest (f ∷ fs) [] rest e = (cc)
after_rest (f ∷ fs) (b ∷ bs) rest e = tested f b fs bs rest (eqb f b) refl e (after_rest fs bs rest)

pub after_none : (front bytes : List ℕ) → ((rest : List ℕ) → bytes ≢ front ++ rest) → after front bytes ≡ None
after_none front bytes lacks =
    elim (after front bytes) as (λ o. after front bytes ≡ o → o ≡ None) [
      | None ↦ λ e. refl
      | Some rest ↦ λ e. absurd (lacks rest (after_rest front bytes rest e))
    ] refl

-- what `strip_prefix` says
pub strip_is : (front bytes : List ℕ) (r : Option (Bor (List ℕ))) → MatchOption r (FindsTextPrefix front bytes None) (λ x. StripsPrefix (FindsTextPrefix front) bytes x.now) → option_map {T = Bor (List ℕ)} {U = List ℕ} (λ rest. rest.now) r ≡ after front bytes
strip_is front bytes None lacks = sym (after_none front bytes lacks)
strip_is front bytes (Some x) strips =
    let whole : bytes ≡ front ++ x.now = strips.1.1 ∙ ap (λ l. front ++ l) (sym strips.2) in
    sym (ap (after front) whole ∙ after_front front x.now)
