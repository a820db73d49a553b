-- The tokens of a platform expression's text.
use Rattle.std.specs.Prelude.{◌+◌, ◌++◌, ◌||◌, ◌==◌, if◌then◌else◌, ℕ, Bool, false, not, List, []}
use Rattle.std.specs.Prelude.{◌∷◌, Option, Some, None, option_map, option_to_list, codes}
use Rattle.std.specs.List.{before_first}
use Rattle.std.specs.Str.{bytes_eq}
use Rattle.std.specs.Char.{is_ascii_lowercase, is_ascii_digit}

-- space, tab, carriage return and line feed
abbrev pub is_blank : ℕ → Bool
is_blank b = (b == 32) || (b == 9) || (b == 13) || (b == 10)

-- the bytes of words: `a` to `z`, `0` to `9`, `_` and `-`
abbrev pub is_word_byte : ℕ → Bool
is_word_byte b = is_ascii_lowercase b || is_ascii_digit b || (b == 95) || (b == 45)

-- the two ways to join members: by AND and by OR
pub data Joint : Type 0 where
  both : Joint
  either : Joint

-- what a token is; a byte that belongs to none is a stray
pub data Sign : Type 0 where
  name : List ℕ → Sign
  negates : Sign
  joins : Joint → Sign
  opens : Sign
  closes : Sign
  stray : Sign

-- a token, after the place of its first byte
pub data Token : Type 0 where
  token : ℕ → Sign → Token

-- the words `not` and `and` are operators; every other word is a name
unfoldable pub sign_of_word : List ℕ → Sign
sign_of_word w = if bytes_eq w (codes "not") then negates else if bytes_eq w (codes "and") then joins both else name w

-- the token of a byte that is no blank and of no word
unfoldable pub sign_of_byte : ℕ → Sign
sign_of_byte b =
    if b == 33 then negates else
    if b == 38 then joins both else
    if (b == 124) || (b == 44) then joins either else
    if b == 40 then opens else
    if b == 41 then closes else stray

-- the word that some bytes begin with, as long as can be
abbrev pub word_of : List ℕ → List ℕ
word_of bytes = before_first (λ b. not (is_word_byte b)) bytes

-- the token that begins at a byte b, where bs follow it; none begins inside a word
unfoldable pub sign_begun : Bool → ℕ → List ℕ → Option Sign
sign_begun inside b bs =
    if is_word_byte b then (if inside then None else Some (sign_of_word (word_of (b ∷ bs)))) else
    if is_blank b then None else Some (sign_of_byte b)

-- the tokens of the bytes from the place n on, which is inside a word or isn't
unfoldable pub tokens_from : ℕ → Bool → List ℕ → List Token
tokens_from n inside [] = []
tokens_from n inside (b ∷ bs) = option_to_list (option_map (token n) (sign_begun inside b bs)) ++ tokens_from (n + 1) (is_word_byte b) bs

-- the tokens of a text
abbrev pub tokens_of : List ℕ → List Token
tokens_of text = tokens_from 0 false text
