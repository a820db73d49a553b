-- Tokens are what `percent_encode` makes with this crate's set.
use Rattle.std.proofs.Common.{◌≡◌, ◌/◌, ◌%◌, ◌<◌, ℕ, Bool, true, false, cond, ltb, List, [], ◌∷◌, ◌++◌, inl, inr, refl, ap, sym, ◌∙◌, arith}
use Rattle.std.proofs.lemmas.Grind.{flat_map-append}
use Rattle.std.specs.List.{flat_map, All}
use Rattle.std.proofs.lemmas.Bool.{agree_below_at, cases_lt}
use Rattle.std.proofs.lemmas.Bool.Decides.{nat_tests}
use Rattle.std.proofs.lemmas.List.Elements.{All-nil, All-cons, All-append, All-head, All-tail}
use Rattle.std.specs.Fmt.{digit_glyph}
use Rattle.percent_encoding.specs.AsciiSet.{contains, should_percent_encode}
use Rattle.percent_encoding.specs.Percent.{percent_encode, encode_byte, percent_encode_byte, percent_decode}
use Rattle.percent_encoding.proofs.PercentLemmas.{round_trip}
use Rattle.vk_base.specs.declared.tokens.TheConstants.{ESCAPED}
use Rattle.vk_base.specs.Tokens.{token_of, token_byte, is_escaped, IsByte, IsPlain}

-- the set holds the ASCII bytes that are escaped
in_set : (b : ℕ) → b < 128 → contains ESCAPED b ≡ is_escaped b
in_set b small = agree_below_at (contains ESCAPED) is_escaped 128 b refl small

escapes : (b : ℕ) → b < 256 → should_percent_encode ESCAPED b ≡ is_escaped b
unfolding should_percent_encode
escapes b small = elim (cases_lt b 128) [ inl low ↦ (let e = in_set b low in grind (arith, nat_tests)) | inr high ↦ grind (arith, nat_tests) ]

same_byte : (b : ℕ) → b < 256 → encode_byte ESCAPED b ≡ token_byte b
unfolding percent_encode_byte
same_byte b small =
    let few : b / 16 % 16 ≡ b / 16 = omega arith in
    rw (escapes b small, few) refl

pub token-percent : (bytes : List ℕ) → All IsByte bytes → percent_encode ESCAPED bytes ≡ token_of bytes
unfolding percent_encode token_of
token-percent [] all = refl
token-percent (b ∷ bytes) all =
    ap (λ x. x ++ flat_map (encode_byte ESCAPED) bytes) (same_byte b (All-head IsByte b bytes all))
    ∙ ap (λ x. token_byte b ++ x) (token-percent bytes (All-tail IsByte b bytes all))

-- the bytes of a token are read back
pub token_back : (bytes : List ℕ) → All IsByte bytes → percent_decode (token_of bytes) ≡ bytes
token_back bytes all = ap percent_decode (sym (token-percent bytes all)) ∙ round_trip ESCAPED bytes refl all

-- different bytes have different tokens
pub tokens_differ : (one other : List ℕ) → All IsByte one → All IsByte other → token_of one ≡ token_of other → one ≡ other
tokens_differ one other left right e = sym (token_back one left) ∙ ap percent_decode e ∙ token_back other right

glyph_plain : (d : ℕ) → d < 16 → IsPlain (digit_glyph true d)
glyph_plain d small = elim (cases_lt d 10) [
  | inl low ↦ (let yes : ltb d 10 ≡ true = grind (arith, nat_tests) in rw yes (omega arith, omega arith))
  | inr high ↦ (let no : ltb d 10 ≡ false = grind (arith, nat_tests) in rw no (omega arith, omega arith))
]

digits_plain : (high low : ℕ) → high < 16 → low < 16 → All IsPlain (37 ∷ digit_glyph true high ∷ digit_glyph true low ∷ [])
digits_plain high low h l =
    All-cons IsPlain 37 (digit_glyph true high ∷ digit_glyph true low ∷ []) (omega arith, omega arith)
    (All-cons IsPlain (digit_glyph true high) (digit_glyph true low ∷ []) (glyph_plain high h) (All-cons IsPlain (digit_glyph true low) [] (glyph_plain low l) (All-nil IsPlain)))

-- an escape, or a byte that needs none
escape_plain : (b : ℕ) (escaped : Bool) → b < 256 → is_escaped b ≡ escaped → All IsPlain (cond escaped (37 ∷ digit_glyph true (b / 16) ∷ digit_glyph true (b % 16) ∷ []) (b ∷ []))
escape_plain b true small e = digits_plain (b / 16) (b % 16) (omega arith) (omega arith)
escape_plain b false small e = All-cons IsPlain b [] (grind (arith, nat_tests), grind (arith, nat_tests)) (All-nil IsPlain)

-- a token has visible characters of ASCII only
pub token_plain : (bytes : List ℕ) → All IsByte bytes → All IsPlain (token_of bytes)
unfolding token_of
token_plain [] all = All-nil IsPlain
token_plain (b ∷ bytes) all =
    All-append IsPlain (token_byte b) (flat_map token_byte bytes)
    (escape_plain b (is_escaped b) (All-head IsByte b bytes all) refl)
    (token_plain bytes (All-tail IsByte b bytes all))

-- the token of two texts one after the other
pub token-append : (one other : List ℕ) → token_of (one ++ other) ≡ token_of one ++ token_of other
unfolding token_of
token-append one other = flat_map-append token_byte one other
