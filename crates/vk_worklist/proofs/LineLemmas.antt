-- The fact of a line, by the entries of the lines.
use Rattle.std.proofs.Common.{◌≡◌, ◌-◌, ℕ, zero, suc, List, [], ◌∷◌, refl, ap, sym, ◌∙◌, arith}
use Rattle.std.specs.Prelude.{option_map, slice_get}
use Rattle.vk_resolution.specs.Reasons.{fact_at}
use Rattle.vk_model.specs.declared.facts.Fact.{Fact}
use Rattle.vk_model.specs.declared.reasons.Cause.{Cause}
use Rattle.vk_model.specs.FactViews.{fact_view}
use Rattle.vk_worklist.specs.Entries.{facts_in}

get_fact : (es : List (Fact × Cause)) (k : ℕ) → slice_get (facts_in es) k ≡ option_map (λ e. fact_view e.0) (slice_get es k)
get_fact [] k = refl
get_fact (e ∷ es) zero = refl
get_fact (e ∷ es) (suc k) = get_fact es k

pub fact_on_line : (es : List (Fact × Cause)) (n : ℕ) → (n ≡ 0 → ⊥) → fact_at (facts_in es) n ≡ option_map (λ e. fact_view e.0) (slice_get es (n - 1))
fact_on_line es zero some = absurd (some refl)
fact_on_line es (suc k) some = let down : suc k - 1 ≡ k = omega arith in get_fact es k ∙ ap (λ m. option_map (λ e. fact_view e.0) (slice_get es m)) (sym down)
