-- Bytes line by line, and numbers of lines.
use Rattle.std.specs.Prelude.{◌≡◌, ◌<◌, ◌^◌, ◌++◌, ℕ, List}
use Rattle.std.specs.Str.{IsUtf8}
use Rattle.vk_base.specs.Paths.{Lacks}
use Rattle.vk_resolution.specs.Lines.{ended}

-- the number of a line that is cited
abbrev pub IsLine : ℕ → Type 0
IsLine n = n < 2 ^ 32

-- bytes with a line feed behind them are a line where they are a text without one
pub record IsLineText (line : List ℕ) : Type 0 where
  pub whole : Lacks 10 line
  pub utf8 : IsUtf8 line

-- the bytes begin with no line
abbrev pub NoLine : List ℕ → Type 0
NoLine bytes = (line more : List ℕ) → IsLineText line → bytes ≡ ended line ++ more → ⊥
