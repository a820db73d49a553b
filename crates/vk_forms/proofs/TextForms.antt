-- Texts are read from their tokens.
use Rattle.std.proofs.Common.{◌≡◌, ◌≢◌, ◌<◌, ◌≤◌, ◌/◌, ◌%◌, ◌∷◌, ℕ, Bool, true, false, cond, ltb, List, [], inl, inr, sym, ◌∙◌, subst, arith}
use Rattle.std.specs.List.{flat_map}
use Rattle.std.specs.Fmt.{digit_glyph}
use Rattle.std.proofs.lemmas.Bool.{cases_lt}
use Rattle.std.proofs.lemmas.Bool.Decides.{nat_tests}
use Rattle.std.proofs.lemmas.List.Elements.{All-nil, All-cons, All-append, All-head, All-tail, All-weaker}
use Rattle.vk_base.specs.Paths.{Lacks}
use Rattle.std.specs.Prelude.{Option, Some, None, MatchOption, option_map}
use Rattle.std.specs.List.{All}
use Rattle.std.specs.Str.{IsUtf8}
use Rattle.vk_base.specs.Tokens.{IsByte, IsPlain, is_escaped, token_byte, token_of, ReadsToken}
use Rattle.vk_base.proofs.TokenLemmas.{token_plain, tokens_differ}
use Rattle.vk_forms.specs.Forms.{ReadsAs}
use Rattle.vk_forms.specs.Texts.{IsText}

pub text_read : (text bytes : List ℕ) → All IsByte bytes → text ≡ token_of bytes → (found : Option (List ℕ)) → MatchOption found (IsUtf8 bytes → ⊥) (λ t. (t ≡ bytes) × IsUtf8 bytes)
    → ReadsAs token_of IsText text (option_map (λ t. t) found)
text_read text bytes all is None other = λ x right e. other (subst IsUtf8 (tokens_differ x bytes right.bytes all (sym e ∙ is)) right.utf8)
text_read text bytes all is (Some t) same = (rw same.0 is, rw same.0 record { bytes = all; utf8 = same.1 })

pub no_text : (text : List ℕ) → ReadsToken text None → ReadsAs token_of IsText text None
no_text text none = λ x right e. none x right.bytes e

glyph_high : (d : ℕ) → 48 ≤ digit_glyph true d
glyph_high d = elim (cases_lt d 10) [
  | inl low ↦ (let yes : ltb d 10 ≡ true = grind (arith, nat_tests) in rw yes (omega arith))
  | inr high ↦ (let no : ltb d 10 ≡ false = grind (arith, nat_tests) in rw no (omega arith))
]

escape_lacks : (mark b : ℕ) (escaped : Bool) → mark < 37 → b ≢ mark → Lacks mark (cond escaped (37 ∷ digit_glyph true (b / 16) ∷ digit_glyph true (b % 16) ∷ []) (b ∷ []))
escape_lacks mark b true low other =
    let one = glyph_high (b / 16) in
    let two = glyph_high (b % 16) in
    All-cons (λ c. c ≢ mark) 37 (digit_glyph true (b / 16) ∷ digit_glyph true (b % 16) ∷ []) (λ e. absurd (omega (arith, e, low)))
    (All-cons (λ c. c ≢ mark) (digit_glyph true (b / 16)) (digit_glyph true (b % 16) ∷ []) (λ e. absurd (omega (arith, e, low, one)))
    (All-cons (λ c. c ≢ mark) (digit_glyph true (b % 16)) [] (λ e. absurd (omega (arith, e, low, two))) (All-nil (λ c. c ≢ mark))))
escape_lacks mark b false low other = All-cons (λ c. c ≢ mark) b [] other (All-nil (λ c. c ≢ mark))

-- a mark below `%` stands in a token only where it stands in the text
pub token_lacks : (mark : ℕ) (text : List ℕ) → mark < 37 → Lacks mark text → Lacks mark (token_of text)
unfolding token_of
token_lacks mark [] low lacks = All-nil (λ c. c ≢ mark)
token_lacks mark (b ∷ text) low lacks =
    All-append (λ c. c ≢ mark) (token_byte b) (flat_map token_byte text)
    (escape_lacks mark b (is_escaped b) low (All-head (λ c. c ≢ mark) b text lacks))
    (token_lacks mark text low (All-tail (λ c. c ≢ mark) b text lacks))

-- a token has no blank
pub text_blank : (text : List ℕ) → IsText text → Lacks 32 (token_of text)
text_blank text is = All-weaker IsPlain (λ c. c ≢ 32) (λ c plain e. absurd (omega (arith, e, plain.0))) (token_of text) (token_plain text is.bytes)
