-- Which bytes are a text.
use Rattle.std.specs.Prelude.{ℕ, List}
use Rattle.std.specs.List.{All}
use Rattle.std.specs.Str.{IsUtf8}
use Rattle.vk_base.specs.Tokens.{IsByte}

pub record IsText (text : List ℕ) : Type 0 where
  pub bytes : All IsByte text
  pub utf8 : IsUtf8 text
