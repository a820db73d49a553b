-- A SHA-256 digest is 32 bytes.
use Rattle.std.proofs.Common.{◌<◌, ◌++◌, ℕ, zero, suc, List, [], ◌∷◌, arith}
use Rattle.std.specs.Prelude.{◌/◌, ◌%◌, ◌^◌, slice_index}
use Rattle.std.specs.Int.{byte_at, bytes_high_first}
use Rattle.hex.specs.Hex.{IsBytes}
use Rattle.sha2.specs.Sha256.{sha256, digest_bytes, final_hash, initial_hash_256}
use Rattle.sha2.proofs.Facts256.{length-sha256}
use Rattle.vk_abi_text.specs.Rights.{IsDigest}

is_bytes_append : (xs ys : List ℕ) → IsBytes xs → IsBytes ys → IsBytes (xs ++ ys)
is_bytes_append [] ys a b i = b i
is_bytes_append (x ∷ xs) ys a b zero = a zero
is_bytes_append (x ∷ xs) ys a b (suc i) = is_bytes_append xs ys (λ j. a (suc j)) b i

byte_small : (i n : ℕ) → byte_at i n < 256
byte_small zero n = omega arith
byte_small (suc i) n = of_rest (n / 256 ^ suc i)
  where
    of_rest : (m : ℕ) → m % 256 < 256
    of_rest m = omega arith

word_bytes : (k n : ℕ) → IsBytes (bytes_high_first k n)
word_bytes zero n i = omega arith
word_bytes (suc k) n zero = byte_small k n
word_bytes (suc k) n (suc i) = word_bytes k n i

hash_bytes : (h : List ℕ) (n : ℕ) → IsBytes (digest_bytes h n)
unfolding digest_bytes
hash_bytes h zero i = omega arith
hash_bytes h (suc n) i = is_bytes_append (digest_bytes h n) (bytes_high_first 4 (slice_index h n)) (hash_bytes h n) (word_bytes 4 (slice_index h n)) i

pub is_digest : (message : List ℕ) → IsDigest (sha256 message)
unfolding sha256
is_digest message = record { bytes = hash_bytes (final_hash initial_hash_256 message) 8; count = length-sha256 message }
