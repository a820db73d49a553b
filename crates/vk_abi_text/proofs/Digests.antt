-- Digests are told apart by their hexadecimal digits, which are visible characters.
use Rattle.std.proofs.Common.{◌≡◌, ◌==◌, ◌<◌, ◌/◌, ◌%◌, ◌&&◌, ℕ, zero, suc, Bool, true, false, List, [], ◌∷◌, slice_index, refl, ap, ◌∙◌, arith}
use Rattle.std.specs.Prelude.{Result, Ok, nat_lt}
use Rattle.std.specs.List.{All}
use Rattle.std.proofs.lemmas.Bool.Decides.{nat_tests}
use Rattle.std.proofs.lemmas.List.Elements.{All-nil, All-cons}
use Rattle.hex.specs.Hex.{IsBytes, decode_of, encode_lower, encode_with, lower_digits}
use Rattle.hex.proofs.HexLemmas.{decode_of-encode_lower}
use Rattle.vk_base.specs.Tokens.{IsPlain}
use Rattle.vk_base.proofs.PathLemmas.{both}
use Rattle.vk_forms.specs.Forms.{TellsApart}
use Rattle.vk_abi_text.specs.Rights.{IsDigest}

ok_one : {X F : Type 0} (r : Result X F) (x y : X) → r ≡ Ok x → r ≡ Ok y → x ≡ y
ok_one r x y one other = (cc)

pub digest_apart : TellsApart encode_lower IsDigest
digest_apart x y left right e = ok_one (decode_of (encode_lower x)) x y (decode_of-encode_lower x left.bytes) (ap decode_of e ∙ decode_of-encode_lower y right.bytes)

-- the sixteen digits are visible, which computes
abbrev plain_up_to : ℕ → Bool
plain_up_to zero = true
plain_up_to (suc n) = (nat_lt 32 (slice_index lower_digits n) && nat_lt (slice_index lower_digits n) 127) && plain_up_to n

plain_there : (n d : ℕ) (same : Bool) → (d == n) ≡ same → nat_lt 32 (slice_index lower_digits n) ≡ true → nat_lt (slice_index lower_digits n) 127 ≡ true → d < suc n
    → (d < n → IsPlain (slice_index lower_digits d)) → IsPlain (slice_index lower_digits d)
plain_there n d true e above low below later = let here : d ≡ n = grind (arith, nat_tests) in rw here (grind (arith, nat_tests), grind (arith, nat_tests))
plain_there n d false e above low below later = later (grind (arith, nat_tests))

plain_at : (n d : ℕ) → plain_up_to n ≡ true → d < n → IsPlain (slice_index lower_digits d)
plain_at zero d e below = absurd (omega (arith, below))
plain_at (suc n) d e below =
    let one = both (nat_lt 32 (slice_index lower_digits n) && nat_lt (slice_index lower_digits n) 127) (plain_up_to n) e in
    let two = both (nat_lt 32 (slice_index lower_digits n)) (nat_lt (slice_index lower_digits n) 127) one.0 in
    plain_there n d (d == n) refl two.0 two.1 below (plain_at n d one.1)

digit_plain : (d : ℕ) → d < 16 → IsPlain (slice_index lower_digits d)
digit_plain d below = plain_at 16 d refl below

hex_plain : (bytes : List ℕ) → IsBytes bytes → All IsPlain (encode_lower bytes)
unfolding encode_with
hex_plain [] small = All-nil IsPlain
hex_plain (b ∷ bytes) small =
    let fits : b < 256 = small 0 in
    All-cons IsPlain (slice_index lower_digits (b / 16)) (slice_index lower_digits (b % 16) ∷ encode_lower bytes) (digit_plain (b / 16) (omega (arith, fits)))
    (All-cons IsPlain (slice_index lower_digits (b % 16)) (encode_lower bytes) (digit_plain (b % 16) (omega (arith, fits))) (hex_plain bytes (λ k. small (suc k))))

pub digest_plain : (digest : List ℕ) → IsDigest digest → All IsPlain (encode_lower digest)
digest_plain digest right = hex_plain digest right.bytes
