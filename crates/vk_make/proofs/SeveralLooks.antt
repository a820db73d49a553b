-- A look at the entry of a pair, among others: nothing, its package, or a limit.
use Rattle.std.proofs.Common.{◌≡◌, ◌⊎◌, inl, inr, ◌<◌, ℕ, zero, suc, List, [], ◌∷◌, length, map, refl, sym, subst, arith}
use Rattle.std.specs.Prelude.{Ok, Err, IsSome, slice_index}
use Rattle.std.specs.Int.{byte_at, bytes_high_first, to_be_bytes, w32}
use Rattle.std.specs.List.{All, Contains}
use Rattle.std.proofs.Math.Nat.{le-max_right}
use Rattle.std.proofs.lemmas.Bool.{cases_lt}
use Rattle.std.proofs.lemmas.List.{append-nil}
use Rattle.std.proofs.lemmas.List.Elements.{All-nil, All-cons, All-append}
use Rattle.hex.specs.Hex.{IsBytes, encode_lower}
use Rattle.sha2.specs.Sha256.{digest_bytes, final_hash, initial_hash_256, sha256}
use Rattle.sha2.proofs.Facts256.{length-sha256}
use Rattle.vk_spec.specs.Paths.{Path}
use Rattle.vk_spec.specs.Files.{Files}
use Rattle.vk_spec.specs.Standing.{Disk, disk_of, IsFile, IsFolder, Stands}
use Rattle.vk_spec.specs.Calls.{kind_of, is_file, is_folder, is_absent, Says}
use Rattle.vk_base.specs.Tokens.{IsByte}
use Rattle.vk_base.specs.declared.limits.Limit.TheVariants.{Bytes}
use Rattle.vk_tree.specs.Trees.{IsTreeDisk}
use Rattle.vk_walk.specs.Walks.{IsCalm}
use Rattle.vk_walk.specs.Walked.{walk_limits}
use Rattle.vk_protocol.specs.Protocols.{Reply, answer_of}
use Rattle.vk_protocol.specs.Runs.{Replies}
use Rattle.vk_protocol.proofs.KeepLemmas.{keeps_more}
use Rattle.vk_entry.specs.Packages.{File}
use Rattle.vk_entry.specs.Contents.{content_of}
use Rattle.vk_entry.proofs.PackageLists.{bytes_from}
use Rattle.vk_entry.proofs.DigestLemmas.{digest_apart}
use Rattle.vk_look.specs.LookIs.{Wanted, LookIs, IsValid, bytes_listed, most_list, wanted_in}
use Rattle.vk_look.specs.Looks.{Looked, look_of, look_stands}
use Rattle.vk_look.specs.declared.answers.Look.TheVariants.{Hit, Absent}
use Rattle.vk_look.proofs.CallLemmas.{look_below}
use Rattle.vk_look.proofs.LookTells.{look_tells}
use Rattle.vk_look.proofs.OneAnswer.{one_answer}
use Rattle.vk_publish.specs.Entries.{entry_files, HoldsJust}
use Rattle.vk_publish.specs.Shared.{Pair, name_of, named_at, Effect, IsEntry, IsSound, Later}
use Rattle.vk_publish.proofs.FoundLemmas.{whole_valid}
use Rattle.vk_publish.proofs.SharedLemmas.{nothing_done, stood_whole}
use Rattle.vk_make.specs.Several.{Agrees, IsMeant}
use Rattle.vk_make.proofs.SeveralReads.{IsKept, read_left, view_kept}

-- ---- two digests with one name are one

one_byte : (k n : ℕ) → byte_at k n < 256
one_byte zero n = omega arith
one_byte (suc k) n = omega arith

high_bytes : (k n : ℕ) → All IsByte (bytes_high_first k n)
high_bytes zero n = All-nil IsByte
high_bytes (suc k) n = All-cons IsByte (byte_at k n) (bytes_high_first k n) (one_byte k n) (high_bytes k n)

all_bytes : (words : List ℕ) (n : ℕ) → All IsByte (digest_bytes words n)
unfolding digest_bytes
all_bytes words zero = All-nil IsByte
all_bytes words (suc n) = All-append IsByte (digest_bytes words n) (to_be_bytes w32 (slice_index words n)) (all_bytes words n) (high_bytes 4 (slice_index words n))

sha_bytes : (message : List ℕ) → IsBytes (sha256 message)
unfolding sha256
sha_bytes message = bytes_from (digest_bytes (final_hash initial_hash_256 message) 8) (all_bytes (final_hash initial_hash_256 message) 8)

same_digest : (one other : List ℕ) → encode_lower (sha256 one) ≡ encode_lower (sha256 other) → sha256 one ≡ sha256 other
same_digest one other e = digest_apart (sha256 one) (sha256 other) (sha_bytes one, length-sha256 one) (sha_bytes other, length-sha256 other) e

-- ---- what a look at a whole entry answers

-- what is found of a pair: nothing, its package, or a limit
abbrev pub Finds : List File → ℕ → Looked → Type 0
Finds built most l = (l ≡ Ok Absent) ⊎ ((l ≡ Ok (Hit built)) ⊎ (l ≡ Err (Bytes most)))

file_there : (p : Path) (d : Disk) → IsFile d p → Stands d p
file_there p d is = ([], subst (λ q. IsSome (d q)) (sym (append-nil p)) is)

folder_there : (p : Path) (d : Disk) → IsFolder d p → Stands d p
folder_there p d is = (is.0 ∷ is.1, is.2)

module _ (w : Wanted) (built : List File) (d : Disk) (tree : IsTreeDisk d) (valid : IsValid w w.text (map content_of built) built d) where
  valid_found : (l : Looked) → LookIs w l d → Finds built w.most l
  valid_found l is = elim (cases_lt w.most (bytes_listed (map content_of built))) [
    | inl many ↦ inr (inr (one_answer w d l (Err (Bytes w.most)) tree is (map content_of built, built, valid, many, refl)))
    | inr few ↦ inr (inl (one_answer w d l (Ok (Hit built)) tree is (map content_of built, valid, few)))
  ]

module _ (calm_by : (text : List ℕ) (built : List File) → IsMeant built → (entry : Path) (d : Disk) → IsTreeDisk d → HoldsJust (entry_files text built) entry d → IsCalm walk_limits d entry) where
  module _ (all : List Pair) (cache : Path) (agent : List ℕ) (agrees : Agrees all) (text : List ℕ) (built : List File) (member : Contains all (text, built)) (meant : IsMeant built) (most : ℕ) where
    abbrev name : List ℕ
    name = name_of (text, built)

    abbrev entry : Path
    entry = named_at cache name

    abbrev w : Wanted
    w = wanted_in cache (sha256 text) text most

    -- the entry that stands there is this pair's
    own_entry : (d : Disk) → IsEntry all cache name d → HoldsJust (entry_files text built) entry d
    own_entry d is =
        let same : (text, built) ≡ is.pair = agrees (text, built) is.pair member is.member (same_digest text is.pair.0 is.named) in
        subst (λ (p : Pair). HoldsJust (entry_files p.0 p.1) entry d) (sym same) is.whole

    own_valid : (d : Disk) → IsSound all cache d → Stands d entry → IsValid w text (map content_of built) built d
    own_valid d sound stands =
        let just = own_entry d (stood_whole all cache name d sound stands) in
        whole_valid w text built d (record { tellable = meant.tellable; just = just; calm = calm_by text built meant entry d sound.tree just }) refl (le-max_right most_list (length text))

    stood_kept : (f : Files) (reply : Reply (kind_of entry)) → IsSound all cache (disk_of f) → Replies (kind_of entry) reply (disk_of f) → Stands (disk_of f) entry → IsKept all cache agent (λ l g. Finds built most l) (look_stands w reply) f
    unfolding look_of
    stood_kept f reply sound may stands =
        keeps_more (Later all cache agent) (λ f g. Effect all cache agent (disk_of f) (disk_of g)) (λ l g. LookIs w l (disk_of f)) (λ l g. Finds built most l) (look_stands w reply) f
        (λ l g is. valid_found w built (disk_of f) sound.tree (own_valid (disk_of f) sound stands) l is)
        (view_kept all cache agent name (λ l. LookIs w l (disk_of f)) (look_stands w reply) (disk_of f) f sound.tree (λ r. refl) stands ((look_below w).1 reply) (look_tells w (disk_of f) reply may))

    replied : (f : Files) (reply : Reply (kind_of entry)) → IsSound all cache (disk_of f) → Replies (kind_of entry) reply (disk_of f) → IsKept all cache agent (λ l g. Finds built most l) (look_stands w reply) f
    replied f (Ok is_file) sound may = stood_kept f (Ok is_file) sound may (file_there entry (disk_of f) may.says)
    replied f (Ok is_folder) sound may = stood_kept f (Ok is_folder) sound may (folder_there entry (disk_of f) may.says)
    replied f (Ok is_absent) sound may = λ g later. inl refl
    replied f (Err r) sound may = absurd may.says

    pub look_kept : (f : Files) → IsKept all cache agent (λ l g. Finds built most l) (look_of w) f
    unfolding look_of
    look_kept f = λ g later. (
      tt,
      (λ h left tree. nothing_done all cache agent g h left),
      (λ reply h does tree. (let same = read_left (kind_of entry) reply g h refl does.leaves in (
        nothing_done all cache agent g h same,
        replied h reply (subst (λ i. IsSound all cache (disk_of i)) (sym same) later.sound)
            (record { says = subst (λ i. Says (kind_of entry) (answer_of (kind_of entry) reply) (disk_of i)) (sym same) does.says; small = does.small; tree = tree }),
      ))),
    )
