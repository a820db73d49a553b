-- Any two texts have a verdict.
use Rattle.std.proofs.Common.{◌≡◌, ◌⊎◌, ◌+◌, ℕ, suc, Bool, true, false, cond, List, [], ◌∷◌, inl, inr, refl, ap, sym, ◌∙◌}
use Rattle.std.specs.Prelude.{◌==◌, option_map, slice_get, bytes_eq}
use Rattle.std.specs.List.{concat}
use Rattle.std.proofs.lemmas.Bool.{cases_Bool}
use Rattle.std.proofs.lemmas.Slice.Eq.{bytes_eq-Decides}
use Rattle.vk_check.specs.Lines.{with_byte, lines_of, without_feed}
use Rattle.vk_check.specs.Verdicts.{DifferAt, IsVerdict}
use Rattle.vk_check.specs.declared.verdicts.Verdict.{Verdict}
use Rattle.vk_check.specs.declared.verdicts.Verdict.TheVariants.{Yes, No}

-- ---- the lines joined are the text

joined_or_own : (b : ℕ) (l : List ℕ) (ls : List (List ℕ)) (own : Bool)
    → concat (cond own ((b ∷ []) ∷ l ∷ ls) ((b ∷ l) ∷ ls)) ≡ b ∷ concat (l ∷ ls)
joined_or_own b l ls true = refl
joined_or_own b l ls false = refl

joined_with : (b : ℕ) (ls : List (List ℕ)) → concat (with_byte b ls) ≡ b ∷ concat ls
joined_with b [] = refl
joined_with b (l ∷ ls) = joined_or_own b l ls (b == 10)

joined : (bytes : List ℕ) → concat (lines_of bytes) ≡ bytes
joined [] = refl
joined (b ∷ bytes) = joined_with b (lines_of bytes) ∙ ap (λ l. b ∷ l) (joined bytes)

same_text : (one other : List ℕ) → lines_of one ≡ lines_of other → one ≡ other
same_text one other same = sym (joined one) ∙ ap concat same ∙ joined other

-- ---- two lists are the same, or differ first at a place

abbrev pub FirstDifference : List (List ℕ) → List (List ℕ) → Type 0
FirstDifference one other = (place : ℕ) × DifferAt one other place

differ_behind : (l : List ℕ) (one other : List (List ℕ)) → FirstDifference one other
    → FirstDifference (l ∷ one) (l ∷ other)
differ_behind l one other first = (
  suc first.0,
  record { same = ap (λ ls. l ∷ ls) first.1.same; differ = first.1.differ },
)

differ_here : (l m : List ℕ) (one other : List (List ℕ)) → bytes_eq l m ≡ false
    → FirstDifference (l ∷ one) (m ∷ other)
differ_here l m one other apart =
    let differ : l ≡ m → ⊥ =
    λ alike. (let clash : true ≡ false = sym ((bytes_eq-Decides l m).1 alike) ∙ apart in (cc)) in
    (0, record { same = refl; differ = λ e. differ (cc) })

same_or_differ : (one other : List (List ℕ)) → (one ≡ other) ⊎ FirstDifference one other
same_or_differ [] [] = inl refl
same_or_differ [] (m ∷ other) = inr (0, record { same = refl; differ = λ e. (cc) })
same_or_differ (l ∷ one) [] = inr (0, record { same = refl; differ = λ e. (cc) })
same_or_differ (l ∷ one) (m ∷ other) =
    elim (cases_Bool (bytes_eq l m)) [
      | inl same ↦ rw ((bytes_eq-Decides l m).0 same) (elim (same_or_differ one other) [
        | inl rest ↦ inl (ap (λ ls. m ∷ ls) rest)
        | inr rest ↦ inr (differ_behind m one other rest)
      ])
      | inr apart ↦ inr (differ_here l m one other apart)
    ]

-- ---- the verdict

pub some_verdict : (report want : List ℕ) → (verdict : Verdict) × IsVerdict report want verdict
some_verdict report want =
    elim (same_or_differ (lines_of report) (lines_of want)) [
      | inl same ↦ (Yes, same_text report want same)
      | inr first ↦ (
        No (first.0 + 1) (option_map without_feed (slice_get (lines_of want) first.0)),
        record { place = first.0; number = refl; first = first.1; told = refl },
      )
    ]
