-- A digest is read back from its text.
use Rattle.std.proofs.Common.{◌≡◌, ℕ, List, length, ap, subst, ◌∙◌}
use Rattle.std.specs.Prelude.{Ok, Err}
use Rattle.hex.specs.Hex.{IsBytes, decode_sized, encode_lower}
use Rattle.hex.specs.declared.error.FromHexError.{FromHexError}
use Rattle.hex.proofs.HexLemmas.{decode_sized-encode_lower}

pub read_back : (text bytes : List ℕ) → IsBytes bytes → length bytes ≡ 32 → encode_lower bytes ≡ text → decode_sized text 32 ≡ Ok bytes
read_back text bytes are of is = subst (λ t. decode_sized t 32 ≡ Ok bytes) is (decode_sized-encode_lower bytes 32 of are)

pub no_text : (text : List ℕ) (e : FromHexError) → decode_sized text 32 ≡ Err e
    → (bytes : List ℕ) → IsBytes bytes → length bytes ≡ 32 → encode_lower bytes ≡ text → ⊥
no_text text e refused bytes are of is = let back = read_back text bytes are of is in (cc)

pub other_text : (text found : List ℕ) → decode_sized text 32 ≡ Ok found → (encode_lower found ≡ text → ⊥)
    → (bytes : List ℕ) → IsBytes bytes → length bytes ≡ 32 → encode_lower bytes ≡ text → ⊥
other_text text found read other bytes are of is =
    let back = read_back text bytes are of is in
    let same : found ≡ bytes = (cc) in
    other (ap encode_lower same ∙ is)
