-- Words that stand for themselves, and those for what is wrong with a file.
use Rattle.std.specs.Prelude.{◌≡◌, ℕ, List}
use Rattle.vk_json.specs.Words.{HasSmallNumber, word_of}
use Rattle.vk_json.specs.declared.faults.Why.{Why}

-- a word has one value, and that is right
abbrev pub Any : Unit {0} → Type 0
Any u = Unit {0}

-- a word that is printed of what is wrong with a file
pub record IsWord (word : List ℕ) : Type 0 where
  pub why : Why
  pub small : HasSmallNumber why
  pub is : word ≡ word_of why
