-- A token: a text whose blanks, controls, `%` and bytes beyond ASCII are escaped.
use Rattle.std.specs.Prelude.{◌≡◌, ◌<◌, ◌||◌, ◌==◌, ◌/◌, ◌%◌, ℕ, Bool, true, nat_le, List, [], ◌∷◌}
use Rattle.std.specs.Prelude.{Option, Some, None, if◌then◌else◌}
use Rattle.std.specs.List.{flat_map, All}
use Rattle.std.specs.Fmt.{digit_glyph}

-- 0 to 32, 127, `%`, and 128 on
abbrev pub is_escaped : ℕ → Bool
is_escaped b = nat_le b 32 || (b == 127) || (b == 37) || nat_le 128 b

-- an escape is `%` and two upper-case hexadecimal digits
abbrev pub token_byte : ℕ → List ℕ
token_byte b = if is_escaped b then 37 ∷ digit_glyph true (b / 16) ∷ digit_glyph true (b % 16) ∷ [] else b ∷ []

-- the token of these bytes
unfoldable pub token_of : List ℕ → List ℕ
token_of bytes = flat_map token_byte bytes

abbrev pub IsByte : ℕ → Type 0
IsByte b = b < 256

-- a visible character of ASCII
abbrev pub IsPlain : ℕ → Type 0
IsPlain b = (32 < b) × (b < 127)

-- what a reader of tokens answers: the bytes that have this token, or that none have
abbrev pub ReadsToken : List ℕ → Option (List ℕ) → Type 0
ReadsToken text (Some bytes) = text ≡ token_of bytes
ReadsToken text None = (bytes : List ℕ) → All IsByte bytes → text ≡ token_of bytes → ⊥
