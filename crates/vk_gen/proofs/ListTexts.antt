-- Texts of lists.
use Rattle.std.proofs.Common.{◌≡◌, ◌+◌, ◌++◌, ℕ, List, [], ◌∷◌, map, refl, ap, sym, ◌∙◌, arith}
use Rattle.std.specs.Prelude.{flat_map}
use Rattle.std.specs.List.{join_by, range_with_len}
use Rattle.std.proofs.lemmas.List.{append-nil, append_assoc, map-append}
use Rattle.std.proofs.lemmas.List.FromFn.{map-range_with_len_more}

-- what stands behind the first
behind : {X : Type 0} (f : X → List ℕ) (sep : List ℕ) (xs : List X) → flat_map (λ y. sep ++ f y) xs ≡ flat_map (λ y. sep ++ y) (map f xs)
behind f sep [] = refl
behind f sep (x ∷ xs) = ap (λ l. (sep ++ f x) ++ l) (behind f sep xs)

-- joined things are their texts, joined
pub joined_texts : {X : Type 0} (f : X → List ℕ) (sep : List ℕ) (xs : List X) → join_by f sep xs ≡ join_by (λ y. y) sep (map f xs)
joined_texts f sep [] = refl
joined_texts f sep (x ∷ xs) = ap (λ l. f x ++ l) (behind f sep xs)

-- one more of a list of texts
pub one_text_more : {X : Type 0} (view : X → List ℕ) (f : ℕ → List ℕ) (xs : List X) (x : X) (k : ℕ)
    → map view xs ≡ map f (range_with_len 0 k) → view x ≡ f k → map view (xs ++ x ∷ []) ≡ map f (range_with_len 0 (k + 1))
one_text_more view f xs x k e last = map-append view xs (x ∷ []) ∙ (λ i. e i ++ last i ∷ []) ∙ sym (map-range_with_len_more f 0 k k (omega arith))

-- an object whose last two members end in a quoted text and in one byte, as pieces in a row
pub in_a_row : (text between last : List ℕ) (b : ℕ) → ((text ++ 34 ∷ []) ++ (between ++ ((last ++ b ∷ []) ++ []))) ++ 125 ∷ [] ≡ text ++ (34 ∷ (between ++ (last ++ b ∷ 125 ∷ [])))
in_a_row text between last b =
    append_assoc (text ++ 34 ∷ []) (between ++ ((last ++ b ∷ []) ++ [])) (125 ∷ []) ∙ append_assoc text (34 ∷ []) ((between ++ ((last ++ b ∷ []) ++ [])) ++ 125 ∷ [])
    ∙ ap (λ t. text ++ (34 ∷ t)) (append_assoc between ((last ++ b ∷ []) ++ []) (125 ∷ [])
    ∙ ap (λ t. between ++ t) (ap (λ t. t ++ 125 ∷ []) (append-nil (last ++ b ∷ [])) ∙ append_assoc last (b ∷ []) (125 ∷ [])))
