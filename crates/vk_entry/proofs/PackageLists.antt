-- The files of a package whose paths have their form are the files of a contents list.
use Rattle.std.proofs.Common.{◌≡◌, ◌<◌, ◌∷◌, ℕ, zero, suc, List, [], map, refl, ap, sym, subst, arith}
use Rattle.std.specs.Prelude.{slice_index}
use Rattle.std.specs.Int.{byte_at, bytes_high_first, to_be_bytes, w32}
use Rattle.std.specs.List.{All}
use Rattle.std.specs.List.Sorted.{IsStrictlySortedBy}
use Rattle.std.specs.Ordering.{nat_cmp}
use Rattle.std.specs.Cmp.Lexicographic.{slice_cmp}
use Rattle.std.proofs.lemmas.List.Elements.{All-nil, All-cons, All-append, All-head, All-tail, All-map, All-weaker}
use Rattle.hex.specs.Hex.{IsBytes}
use Rattle.sha2.specs.Sha256.{digest_bytes, final_hash, initial_hash_256, sha256}
use Rattle.sha2.proofs.Facts256.{length-sha256}
use Rattle.vk_base.specs.Paths.{text_of_path}
use Rattle.vk_base.specs.Tokens.{IsByte}
use Rattle.vk_entry.specs.Packages.{File, IsPackage, texts_of}
use Rattle.vk_entry.specs.Contents.{Content, content_of}
use Rattle.vk_entry.specs.ContentLists.{AreContents, IsContent, IsListable}

-- ---- a digest is bytes

one_byte : (k n : ℕ) → byte_at k n < 256
one_byte zero n = omega arith
one_byte (suc k) n = omega arith

high_bytes : (k n : ℕ) → All IsByte (bytes_high_first k n)
high_bytes zero n = All-nil IsByte
high_bytes (suc k) n = All-cons IsByte (byte_at k n) (bytes_high_first k n) (one_byte k n) (high_bytes k n)

all_bytes : (words : List ℕ) (n : ℕ) → All IsByte (digest_bytes words n)
unfolding digest_bytes
all_bytes words zero = All-nil IsByte
all_bytes words (suc n) = All-append IsByte (digest_bytes words n) (to_be_bytes w32 (slice_index words n)) (all_bytes words n) (high_bytes 4 (slice_index words n))

pub bytes_from : (bytes : List ℕ) → All IsByte bytes → IsBytes bytes
bytes_from [] all i = omega arith
bytes_from (b ∷ bytes) all zero = All-head IsByte b bytes all
bytes_from (b ∷ bytes) all (suc i) = bytes_from bytes (All-tail IsByte b bytes all) i

sha_bytes : (message : List ℕ) → IsBytes (sha256 message)
unfolding sha256
sha_bytes message = bytes_from (digest_bytes (final_hash initial_hash_256 message) 8) (all_bytes (final_hash initial_hash_256 message) 8)

-- ---- the files of a list

content_right : (file : File) → IsListable file → IsContent (content_of file)
content_right file right = record { path = right.path; size = right.size; digest = (sha_bytes file.bytes, length-sha256 file.bytes) }

same_texts : (files : List File) → map (λ (c : Content). text_of_path c.path) (map content_of files) ≡ texts_of files
same_texts [] = refl
same_texts (file ∷ files) = ap (λ l. text_of_path file.path ∷ l) (same_texts files)

pub package_listed : (files : List File) → IsPackage files → All IsListable files → AreContents (map content_of files)
package_listed files order all = record {
  each = All-map IsContent content_of files (All-weaker IsListable (λ file. IsContent (content_of file)) content_right files all);
  order = subst (IsStrictlySortedBy (slice_cmp nat_cmp)) (sym (same_texts files)) order;
}
