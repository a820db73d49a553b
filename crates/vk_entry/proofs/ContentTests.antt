-- The tests of the function on bytes tell which files may stand in a contents list.
use Rattle.std.proofs.Common.{◌≡◌, ◌≤◌, ◌==◌, ◌∷◌, ℕ, Bool, true, false, not, List, [], length, map, Ordering, refl, ap}
use Rattle.std.specs.Prelude.{◌^◌, nat_lt, nat_le, Result, Ok, Err}
use Rattle.std.specs.Bool.{Decides}
use Rattle.std.specs.List.{All, AllByRecursion, list_all}
use Rattle.std.specs.List.Sorted.{IsStrictlySortedBy}
use Rattle.std.specs.Ordering.{is_lt, nat_cmp}
use Rattle.std.specs.Cmp.Lexicographic.{slice_cmp}
use Rattle.std.specs.declared.cmp.Ordering.TheVariants.{Less, Equal, Greater}
use Rattle.std.specs.Str.{IsUtf8, bytes_eq, is_utf8}
use Rattle.std.proofs.lemmas.Bool.{le-leb, leb-true}
use Rattle.std.proofs.lemmas.Bool.Decides.{Decides-and, Decides-by_and, Decides-eqb, Decides-like, Decides-ltb}
use Rattle.std.proofs.lemmas.List.Elements.{All-from_get_or}
use Rattle.std.proofs.lemmas.Slice.Eq.{bytes_eq-Decides, slice_eq-Decides}
use Rattle.std.proofs.lemmas.Str.{IsUtf8-from_is_utf8, is_utf8-from_IsUtf8}
use Rattle.hex.specs.Hex.{IsBytes}
use Rattle.vk_spec.specs.Paths.{Path}
use Rattle.vk_base.specs.Paths.{is_rooted, ups_of, parts_of, text_of_path}
use Rattle.vk_base.specs.PathReading.{path_of}
use Rattle.vk_base.specs.Tokens.{IsByte}
use Rattle.vk_base.specs.declared.paths.PathFault.{PathFault}
use Rattle.vk_base.proofs.PathLaws.{text_back}
use Rattle.vk_forms.specs.Paths.{IsRightPath, IsShortPath}
use Rattle.vk_forms.proofs.PathForms.{path_read}
use Rattle.vk_entry.specs.Packages.{IsPackagePath}
use Rattle.vk_entry.specs.Contents.{Content, contents_text}
use Rattle.vk_entry.specs.ContentLists.{AreContents, IsContent, IsDigest, IsList}
use Rattle.vk_entry.specs.ContentsIn.{are_bytes, are_contents, is_content, is_digest, is_list, is_of_package, is_right_path, is_short, is_that, texts_ascend}
use Rattle.vk_entry.proofs.PackageLists.{bytes_from}

-- ---- a path

bytes_decide : (text : List ℕ) → Decides (are_bytes text) (All IsByte text)
bytes_decide text = Decides-by_and (λ b. nat_lt b 256) IsByte are_bytes (λ b. Decides-ltb b 256) refl (λ b bs. refl) text

utf8_decides : (text : List ℕ) → Decides (is_utf8 text) (IsUtf8 text)
utf8_decides text = (IsUtf8-from_is_utf8 text, is_utf8-from_IsUtf8 text)

that_decides : (read : Result Path PathFault) (path : Path) → Decides (is_that read path) (read ≡ Ok path)
that_decides (Ok read) path =
    Decides-like (is_that (Ok read) path) (λ same. ap Ok same) (λ e. (cc)) (slice_eq-Decides bytes_eq-Decides read path (is_that (Ok read) path) refl)
that_decides (Err fault) path = (λ e. absurd (cc), λ e. absurd (cc))

short_decides : (path : Path) → Decides (is_short path) (IsShortPath path)
short_decides path =
    Decides-like (is_short path) (λ read. (path_read (text_of_path path) path read refl).1) (λ short. text_back path short.path short.short) (that_decides (path_of (text_of_path path)) path)

right_decides : (path : Path) → Decides (is_right_path path) (IsRightPath path)
right_decides path =
    Decides-like (is_right_path path)
    (λ all. record { is_short = all.0; is_text = record { bytes = all.1.0; utf8 = all.1.1 } })
    (λ right. (right.is_short, (right.is_text.bytes, right.is_text.utf8)))
    (Decides-and (is_short path) _ (short_decides path) (Decides-and (are_bytes (text_of_path path)) (is_utf8 (text_of_path path)) (bytes_decide (text_of_path path)) (utf8_decides (text_of_path path))))

not_decides : (test : Bool) → Decides (not test) (test ≡ false)
not_decides true = (λ e. absurd (cc), λ e. absurd (cc))
not_decides false = (λ e. refl, λ e. refl)

few_decides : (m n : ℕ) → Decides (nat_le m n) (m ≤ n)
few_decides m n = (leb-true m n, le-leb m n)

package_decides : (path : Path) → Decides (is_of_package path) (IsPackagePath path)
package_decides path =
    Decides-like (is_of_package path)
    (λ all. record { unrooted = all.0; level = all.1.0; some = all.1.1.0; few = all.1.1.1 })
    (λ is. (is.unrooted, (is.level, (is.some, is.few))))
    (Decides-and (not (is_rooted path)) _ (not_decides (is_rooted path))
    (Decides-and (ups_of path == 0) _ (Decides-eqb (ups_of path) 0)
    (Decides-and (nat_lt 0 (length (parts_of path))) (nat_le (length (parts_of path)) 60) (Decides-ltb 0 (length (parts_of path))) (few_decides (length (parts_of path)) 60))))

-- ---- the line of a file

bytes_each : (bytes : List ℕ) → IsBytes bytes → All IsByte bytes
bytes_each bytes all = All-from_get_or IsByte bytes 0 (λ i within. all i)

digest_decides : (digest : List ℕ) → Decides (is_digest digest) (IsDigest digest)
digest_decides digest =
    Decides-like (is_digest digest) (λ all. (bytes_from digest all.0, all.1)) (λ is. (bytes_each digest is.0, is.1))
    (Decides-and (are_bytes digest) (length digest == 32) (bytes_decide digest) (Decides-eqb (length digest) 32))

content_decides : (c : Content) → Decides (is_content c) (IsContent c)
content_decides c =
    Decides-like (is_content c)
    (λ all. record { path = all.0; size = all.1.0; digest = all.1.1 })
    (λ right. (right.path, (right.size, right.digest)))
    (Decides-and _ _ (Decides-and (is_right_path c.path) (is_of_package c.path) (right_decides c.path) (package_decides c.path))
    (Decides-and (nat_lt c.size (2 ^ 64)) (is_digest c.digest) (Decides-ltb c.size (2 ^ 64)) (digest_decides c.digest)))

-- ---- the lines of all files

less_decides : (o : Ordering) → Decides (is_lt o) (o ≡ Less)
less_decides Less = (λ e. refl, λ e. refl)
less_decides Equal = (λ e. absurd (cc), λ e. absurd (cc))
less_decides Greater = (λ e. absurd (cc), λ e. absurd (cc))

below_decides : (text : List ℕ) (texts : List (List ℕ))
    → Decides (list_all (λ other. is_lt (slice_cmp nat_cmp text other)) texts) (AllByRecursion (λ other. slice_cmp nat_cmp text other ≡ Less) texts)
below_decides text [] = (λ e. tt, λ all. refl)
below_decides text (other ∷ texts) = Decides-and (is_lt (slice_cmp nat_cmp text other)) _ (less_decides (slice_cmp nat_cmp text other)) (below_decides text texts)

ascend_decides : (texts : List (List ℕ)) → Decides (texts_ascend texts) (IsStrictlySortedBy (slice_cmp nat_cmp) texts)
unfolding IsStrictlySortedBy
ascend_decides [] = (λ e. tt, λ order. refl)
ascend_decides (text ∷ texts) = Decides-and _ (texts_ascend texts) (below_decides text texts) (ascend_decides texts)

contents_decide : (cs : List Content) → Decides (are_contents cs) (AreContents cs)
contents_decide cs =
    Decides-like (are_contents cs) (λ all. record { each = all.0; order = all.1 }) (λ right. (right.each, right.order))
    (Decides-and (list_all is_content cs) _ (Decides-by_and is_content IsContent (list_all is_content) content_decides refl (λ c more. refl) cs) (ascend_decides (map (λ c. text_of_path c.path) cs)))

pub list_decides : (bytes : List ℕ) (cs : List Content) → Decides (is_list bytes cs) (IsList bytes cs)
list_decides bytes cs = Decides-and (bytes_eq bytes (contents_text cs)) (are_contents cs) (bytes_eq-Decides bytes (contents_text cs)) (contents_decide cs)
