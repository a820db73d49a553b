-- The words of a command line, and what an option's word is made of.
use Rattle.std.specs.Prelude.{ℕ, List, Option, Some, None}
use Rattle.vk_model.specs.Cuts.{cut_at}

-- a word is its bytes, or none where it isn't UTF-8
abbrev pub Words : Type 0
Words = List (Option (List ℕ))

-- an option's name, and the value that is given after `=`
pub record Parts : Type 0 where
  pub name : List ℕ
  pub value : Option (List ℕ)

abbrev pub parts_from : List ℕ → Option (List ℕ × List ℕ) → Parts
parts_from word None = record { name = word; value = None }
parts_from word (Some cut) = record { name = cut.0; value = Some cut.1 }

-- the two have the first `=` between them; without one the word is a name alone
abbrev pub parts_of : List ℕ → Parts
parts_of word = parts_from word (cut_at 61 word)
