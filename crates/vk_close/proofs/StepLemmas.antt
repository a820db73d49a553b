-- What a manifest asks for on a line, fact by fact.
use Rattle.std.proofs.Common.{◌≡◌, ℕ, Bool, cond, List, [], ◌∷◌, ◌++◌, map, length, refl, ap, sym, ◌∙◌, arith}
use Rattle.std.specs.Prelude.{Option, Some, None, IfSome, flat_map}
use Rattle.std.proofs.lemmas.List.{append_assoc, append-nil, map-append}
use Rattle.vk_spec.specs.Manifests.{Override}
use Rattle.std.proofs.lemmas.Grind.{flat_map-append}
use Rattle.vk_resolution.specs.Givens.{Pages}
use Rattle.vk_resolution.specs.Asking.{Fact}
use Rattle.vk_resolution.specs.Reasons.{Reason}
use Rattle.vk_model.specs.declared.facts.Fact as code
use Rattle.vk_model.specs.FactViews.{fact_view}
use Rattle.vk_close.specs.Steps.{falls_away, reason_on, asked_on}

-- a fact is pushed unless it falls away
pub asked_unless : (o : Option Pages) (overrides : List Override) (line : ℕ) (x : Fact) (falls : Bool) (old new : List Reason) → IfSome o (λ pages. falls ≡ falls_away overrides pages x)
    → new ≡ old ++ cond falls [] (reason_on line x ∷ []) → IfSome o (λ pages. new ≡ old ++ asked_on overrides pages line x)
asked_unless None overrides line x falls old new is pushed = tt
asked_unless (Some pages) overrides line x falls old new is pushed = pushed ∙ ap (λ b. old ++ cond b [] (reason_on line x ∷ [])) is

push_flat : {X Y Z : Type 0} (f : Y → List Z) (view : X → Y) (xs : List X) (x : X) → flat_map f (map view (xs ++ x ∷ [])) ≡ flat_map f (map view xs) ++ f (view x)
push_flat f view xs x = ap (flat_map f) (map-append view xs (x ∷ [])) ∙ flat_map-append f (map view xs) (view x ∷ []) ∙ ap (λ l. flat_map f (map view xs) ++ l) (append-nil (f (view x)))

-- one fact more
pub asked_more : (o : Option Pages) (overrides : List Override) (line : ℕ) (first old new : List Reason) (done : List code.Fact) (x : code.Fact)
    → IfSome o (λ pages. old ≡ first ++ flat_map (asked_on overrides pages line) (map fact_view done)) → IfSome o (λ pages. new ≡ old ++ asked_on overrides pages line (fact_view x))
    → IfSome o (λ pages. new ≡ first ++ flat_map (asked_on overrides pages line) (map fact_view (done ++ x ∷ [])))
asked_more None overrides line first old new done x before now = tt
asked_more (Some pages) overrides line first old new done x before now =
    now ∙ ap (λ l. l ++ asked_on overrides pages line (fact_view x)) before ∙ append_assoc first (flat_map (asked_on overrides pages line) (map fact_view done)) (asked_on overrides pages line (fact_view x))
    ∙ ap (λ l. first ++ l) (sym (push_flat (asked_on overrides pages line) fact_view done x))

-- a list without length
pub nothing_left : {X : Type 0} (left : List X) → length left ≡ 0 → left ≡ []
nothing_left [] none = refl
nothing_left (x ∷ left) none = absurd (omega arith)
