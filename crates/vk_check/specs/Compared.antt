-- How far two texts are compared.
use Rattle.std.specs.Prelude.{◌≡◌, ◌+◌, ◌++◌, ℕ, List, length}
use Rattle.vk_check.specs.Lines.{lines_of}

-- both texts begin with these lines, this is left of each, and so many is the next line
pub record IsCompared (report want : List ℕ) (line : ℕ) (left wanted : List ℕ) : Type 0 where
  pub shared : List (List ℕ)
  pub of_report : lines_of report ≡ shared ++ lines_of left
  pub of_want : lines_of want ≡ shared ++ lines_of wanted
  pub whole : left ≡ wanted → report ≡ want
  pub number : line ≡ length shared + 1
