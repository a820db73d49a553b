-- Texts cut at a mark.
use Rattle.std.specs.Prelude.{◌==◌, ℕ, nat_lt, List, length, Option, Some, None, if◌then◌else◌}
use Rattle.std.specs.List.{position_or_len, before_first, after_first}

-- the place of the first such byte, which is the text's length where there is none
abbrev pub mark_place : ℕ → List ℕ → ℕ
mark_place mark text = position_or_len (λ b. b == mark) text

-- what stands before the first such byte, and what stands after it, where there is one
abbrev pub cut_at : ℕ → List ℕ → Option (List ℕ × List ℕ)
cut_at mark text =
    if nat_lt (mark_place mark text) (length text)
    then Some (before_first (λ b. b == mark) text, after_first (λ b. b == mark) text)
    else None
