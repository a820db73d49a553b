-- The lines of a text.
use Rattle.std.specs.Prelude.{ℕ, List, [], ◌∷◌, ◌==◌, if◌then◌else◌}

-- a byte in front of lines: one of its own where it is a line feed, else it begins the first
abbrev pub with_byte : ℕ → List (List ℕ) → List (List ℕ)
with_byte b [] = (b ∷ []) ∷ []
with_byte b (l ∷ ls) = if b == 10 then (b ∷ []) ∷ l ∷ ls else (b ∷ l) ∷ ls

-- each line with its line feed; last bytes without one are a line of their own
abbrev pub lines_of : List ℕ → List (List ℕ)
lines_of [] = []
lines_of (b ∷ bytes) = with_byte b (lines_of bytes)

-- a line up to its line feed
abbrev pub without_feed : List ℕ → List ℕ
without_feed [] = []
without_feed (b ∷ line) = if b == 10 then [] else b ∷ without_feed line

-- the lines of a first line, if there is one, and of what stands behind it
abbrev pub cut_lines : List ℕ → List ℕ → List (List ℕ)
cut_lines [] rest = []
cut_lines (b ∷ line) rest = (b ∷ line) ∷ lines_of rest
