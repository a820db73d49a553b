-- A short text in a room of bytes: the text, and zeros behind it; and what a text feeds to a hash.
use Rattle.std.specs.Prelude.{◌≡◌, ◌≤◌, ◌-◌, ◌++◌, ◌∷◌, [], ℕ, List, length, take, replicate}
use Rattle.std.specs.Str.{IsUtf8}
use Rattle.std.specs.Hash as fed

-- the text, filled up to 14 bytes with zeros; a text that is longer, as it is
abbrev pub padded : List ℕ → List ℕ
padded text = text ++ replicate (14 - length text) 0

-- the first `len` bytes of a room are a text, and zeros fill the rest
pub record IsShort (len : ℕ) (room : List ℕ) : Type 0 where
  pub within : len ≤ length room
  pub utf8 : ∥ IsUtf8 (take len room) ∥₁
  pub zeros : room ≡ padded (take len room)

-- what a text feeds to a hash
abbrev pub text_fed : List ℕ → fed.HashWrites
text_fed text = padded text ∷ []
