-- A digest's text is its own token.
use Rattle.std.proofs.Common.{◌≡◌, ◌<◌, ◌/◌, ◌%◌, ◌∷◌, ◌&&◌, ℕ, zero, suc, Bool, true, false, not, List, [], length, refl, ap, ◌∙◌, arith}
use Rattle.std.specs.Prelude.{slice_index}
use Rattle.std.specs.List.{All}
use Rattle.std.proofs.lemmas.List.Elements.{All-nil, All-cons}
use Rattle.hex.specs.Hex.{IsBytes, decode_of, encode_lower, encode_with, lower_digits}
use Rattle.hex.proofs.HexLemmas.{decode_of-encode_lower, decode_of-same}
use Rattle.vk_base.specs.Tokens.{IsPlain, is_escaped, token_byte, token_of}
use Rattle.vk_base.proofs.PathLemmas.{both}
use Rattle.vk_forms.specs.Forms.{TellsApart}
use Rattle.vk_forms.proofs.WordForms.{plain_from}
use Rattle.vk_entry.specs.ContentLists.{IsDigest}

-- no byte of a text is escaped
abbrev are_kept : List ℕ → Bool
are_kept [] = true
are_kept (b ∷ text) = not (is_escaped b) && are_kept text

not_so : (b : Bool) → not b ≡ true → b ≡ false
not_so true e = (cc)
not_so false e = refl

kept_at : (text : List ℕ) (k : ℕ) → are_kept text ≡ true → k < length text → is_escaped (slice_index text k) ≡ false
kept_at [] k e within = absurd (omega (arith, within))
kept_at (b ∷ text) zero e within = not_so (is_escaped b) (both (not (is_escaped b)) (are_kept text) e).0
kept_at (b ∷ text) (suc k) e within = kept_at text k (both (not (is_escaped b)) (are_kept text) e).1 (omega (arith, within))

digit_kept : (k : ℕ) → k < 16 → token_byte (slice_index lower_digits k) ≡ slice_index lower_digits k ∷ []
digit_kept k small = rw (kept_at lower_digits k refl small) refl

high_digit : (b : ℕ) → b < 256 → b / 16 < 16
high_digit b small = omega (arith, small)

low_digit : (b : ℕ) → b % 16 < 16
low_digit b = omega arith

pub digest_token : (bytes : List ℕ) → IsBytes bytes → token_of (encode_lower bytes) ≡ encode_lower bytes
unfolding token_of encode_with
digest_token [] all = refl
digest_token (b ∷ bytes) all =
    rw (digit_kept (b / 16) (high_digit b (all 0)), digit_kept (b % 16) (low_digit b))
    (ap (λ t. slice_index lower_digits (b / 16) ∷ (slice_index lower_digits (b % 16) ∷ t)) (digest_token bytes (λ i. all (suc i))))

-- ---- a digest's text is plain, and is that of no other digest

all_plain : All IsPlain lower_digits
all_plain = plain_from lower_digits refl

pub digest_plain : (bytes : List ℕ) → IsBytes bytes → All IsPlain (encode_lower bytes)
unfolding encode_with
digest_plain [] all = All-nil IsPlain
digest_plain (b ∷ bytes) all =
    All-cons IsPlain (slice_index lower_digits (b / 16)) (slice_index lower_digits (b % 16) ∷ encode_lower bytes) (all_plain (b / 16) 0 (high_digit b (all 0)))
    (All-cons IsPlain (slice_index lower_digits (b % 16)) (encode_lower bytes) (all_plain (b % 16) 0 (low_digit b)) (digest_plain bytes (λ i. all (suc i))))

pub digest_apart : TellsApart encode_lower IsDigest
digest_apart x y left right e = decode_of-same (encode_lower x) x y (decode_of-encode_lower x left.0) (ap decode_of e ∙ decode_of-encode_lower y right.0)
