-- Texts with blanks between, put together from the left or from the right.
use Rattle.std.proofs.Common.{◌≡◌, ◌++◌, ◌∷◌, ℕ, List, [], ◌∙◌, append_assoc}

pub spaced2 : (a b : List ℕ) → (a ++ 32 ∷ []) ++ b ≡ a ++ 32 ∷ b
spaced2 a b = append_assoc a (32 ∷ []) b

pub spaced3 : (a b c : List ℕ) → (((a ++ 32 ∷ []) ++ b) ++ 32 ∷ []) ++ c ≡ a ++ 32 ∷ (b ++ 32 ∷ c)
spaced3 a b c = spaced2 ((a ++ 32 ∷ []) ++ b) c ∙ append_assoc (a ++ 32 ∷ []) b (32 ∷ c) ∙ spaced2 a (b ++ 32 ∷ c)

pub spaced4 : (a b c d : List ℕ) → (((((a ++ 32 ∷ []) ++ b) ++ 32 ∷ []) ++ c) ++ 32 ∷ []) ++ d ≡ a ++ 32 ∷ (b ++ 32 ∷ (c ++ 32 ∷ d))
spaced4 a b c d = spaced2 ((((a ++ 32 ∷ []) ++ b) ++ 32 ∷ []) ++ c) d ∙ append_assoc (((a ++ 32 ∷ []) ++ b) ++ 32 ∷ []) c (32 ∷ d) ∙ spaced3 a b (c ++ 32 ∷ d)

pub spaced5 : (a b c d e : List ℕ) → (((((((a ++ 32 ∷ []) ++ b) ++ 32 ∷ []) ++ c) ++ 32 ∷ []) ++ d) ++ 32 ∷ []) ++ e ≡ a ++ 32 ∷ (b ++ 32 ∷ (c ++ 32 ∷ (d ++ 32 ∷ e)))
spaced5 a b c d e =
    spaced2 ((((((a ++ 32 ∷ []) ++ b) ++ 32 ∷ []) ++ c) ++ 32 ∷ []) ++ d) e
    ∙ append_assoc (((((a ++ 32 ∷ []) ++ b) ++ 32 ∷ []) ++ c) ++ 32 ∷ []) d (32 ∷ e)
    ∙ spaced4 a b c (d ++ 32 ∷ e)
