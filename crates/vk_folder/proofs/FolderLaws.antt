-- The files of a folder are one list, its answer is one, and both depend on what lies below it alone.
use Rattle.std.proofs.Common.{◌≡◌, ◌↔◌, ◌⊎◌, ◌≤◌, ◌<◌, inl, inr, ℕ, List, [], ◌∷◌, ◌++◌, map, length, refl, ap, sym, ◌∙◌, subst, arith}
use Rattle.std.proofs.lemmas.List.{append-nil, append_assoc}
use Rattle.std.specs.Prelude.{Bool, true, false, IsSome, Result, Ok, Err}
use Rattle.vk_spec.specs.Paths.{Path, Begins}
use Rattle.vk_spec.specs.Standing.{Disk, under, Same, IsFile, IsFolder, Entry, IsAs, AreEntries}
use Rattle.vk_base.specs.declared.limits.Limit.{Limit}
use Rattle.vk_base.specs.declared.limits.Limit.TheVariants as limit
use Rattle.vk_tree.specs.Trees.{IsTreeDisk}
use Rattle.vk_walk.specs.Walks as walks
use Rattle.vk_walk.specs.Walks.{deep, entries, files, Passes, FileBefore, IsFirst, IsCalm}
use Rattle.vk_walk.specs.Walked.{walk_limits}
use Rattle.vk_walk.proofs.FirstLimits.{first_is_one, calm_has_none}
use Rattle.vk_folder.specs.declared.digests.FileDigest.{FileDigest}
use Rattle.vk_folder.specs.Folders.{File, StandsBelow, AreFilesOf, bytes_of, HasMoreBytes, digest_of, AreDigests, FolderIs}
use Rattle.vk_folder.proofs.MemberLemmas.{part_sum}
use Rattle.vk_folder.proofs.TextLemmas.{same_order, order_once}

-- ---- one list of files

-- a folder has one list of files
pub files_are_one : (d : Disk) (folder : Path) (fs gs : List File) → AreFilesOf d folder fs → AreFilesOf d folder gs → fs ≡ gs
files_are_one d folder fs gs one other = same_order fs gs one.order other.order (λ f at. other.all f (one.sound f at)) (λ f at. one.all f (other.sound f at))

-- some files of a folder have more bytes exactly where all have
pub more_bytes : (most : ℕ) (d : Disk) (folder : Path) (fs : List File) → AreFilesOf d folder fs → HasMoreBytes most d folder ↔ (most < bytes_of fs)
more_bytes most d folder fs all = (
  (λ more.
      let most_of : bytes_of more.0 ≤ bytes_of fs = part_sum (λ f. length f.bytes) more.0 fs more.1 (λ f at. all.all f (more.2 f at)) in
      let past = more.3 in
      omega (arith, most_of, past)),
  λ past. (fs, order_once fs all.order, all.sound, past),
)

-- the digests are those of the folder's files, in their order
pub digests_are : (most : ℕ) (d : Disk) (folder : Path) (digests : List FileDigest) (fs : List File) → AreDigests most d folder digests → AreFilesOf d folder fs → (digests ≡ map digest_of fs) × (bytes_of fs ≤ most)
digests_are most d folder digests fs of all =
    let same : of.of ≡ fs = files_are_one d folder of.of fs of.are all in
    (of.is ∙ ap (map digest_of) same, subst (λ l. bytes_of l ≤ most) same of.small)

-- ---- one answer

-- the limit of a walk, as it is told
abbrev pub limit_of : walks.Limit → Limit
limit_of deep = limit.Depth
limit_of entries = limit.Entries
limit_of files = limit.Files

-- a limit is that of a walk, or that of bytes
abbrev Cause : ℕ → Path → Limit → Disk → Type 0
Cause most folder fault d = ((l : walks.Limit) × (fault ≡ limit_of l) × IsFirst walk_limits d folder l) ⊎ ((fault ≡ limit.Bytes most) × IsCalm walk_limits d folder × HasMoreBytes most d folder)

cause_of : (most : ℕ) (folder : Path) (fault : Limit) (d : Disk) → FolderIs most folder (Err fault) d → Cause most folder fault d
cause_of most folder limit.Depth d h = inl (deep, refl, h)
cause_of most folder limit.Entries d h = inl (entries, refl, h)
cause_of most folder limit.Files d h = inl (files, refl, h)
cause_of most folder (limit.Bytes n) d h = inr (ap limit.Bytes h.0, h.1, h.2)
cause_of most folder (limit.Facts n) d h = absurd h
cause_of most folder limit.Tmp d h = absurd h
cause_of most folder limit.Damaged d h = absurd h

limit_is_one : (most : ℕ) (folder : Path) (one other : Limit) (d : Disk) → IsTreeDisk d → Cause most folder one d → Cause most folder other d → one ≡ other
limit_is_one most folder one other d tree (inl h) (inl k) = h.1 ∙ ap limit_of (first_is_one walk_limits d folder h.0 k.0 tree h.2 k.2) ∙ sym k.1
limit_is_one most folder one other d tree (inl h) (inr k) = absurd (calm_has_none walk_limits d folder h.0 k.1 h.2)
limit_is_one most folder one other d tree (inr h) (inl k) = absurd (calm_has_none walk_limits d folder k.0 h.1 k.2)
limit_is_one most folder one other d tree (inr h) (inr k) = h.0 ∙ sym k.0

too_many : (most bytes : ℕ) → bytes ≤ most → most < bytes → ⊥
too_many most bytes few many = omega (arith, few, many)

no_limit : (most : ℕ) (folder : Path) (digests : List FileDigest) (fault : Limit) (d : Disk) → FolderIs most folder (Ok digests) d → Cause most folder fault d → ⊥
no_limit most folder digests fault d h (inl k) = calm_has_none walk_limits d folder k.0 h.0 k.2
no_limit most folder digests fault d h (inr k) = too_many most (bytes_of h.1.of) h.1.small ((more_bytes most d folder h.1.of h.1.are).0 k.2)

-- a folder has one answer
pub answer_is_one : (most : ℕ) (folder : Path) (one other : Result (List FileDigest) Limit) (d : Disk) → IsTreeDisk d → FolderIs most folder one d → FolderIs most folder other d → one ≡ other
answer_is_one most folder (Ok one) (Ok other) d tree h k = ap Ok ((digests_are most d folder one k.1.of h.1 k.1.are).0 ∙ sym k.1.is)
answer_is_one most folder (Ok one) (Err fault) d tree h k = absurd (no_limit most folder one fault d h (cause_of most folder fault d k))
answer_is_one most folder (Err fault) (Ok other) d tree h k = absurd (no_limit most folder other fault d k (cause_of most folder fault d h))
answer_is_one most folder (Err one) (Err other) d tree h k = ap Err (limit_is_one most folder one other d tree (cause_of most folder one d h) (cause_of most folder other d k))

-- ---- nothing else matters

turned : (d e : Disk) → Same d e → Same e d
turned d e same p = sym (same p)

stands_there : (d e : Disk) (folder other : Path) (f : File) → Same (under folder d) (under other e) → StandsBelow d folder f → StandsBelow e other f
stands_there d e folder other f same h = (h.0, h.1, h.2, same (h.0 ∷ h.1) ∙ h.3)

-- the files of a folder are those of any folder with the same below it
pub files_below_alone : (d e : Disk) (folder other : Path) (fs : List File) → Same (under folder d) (under other e) → AreFilesOf d folder fs → AreFilesOf e other fs
files_below_alone d e folder other fs same h = record {
  order = h.order;
  sound = λ f at. stands_there d e folder other f same (h.sound f at);
  all = λ f at. h.all f (stands_there e d other folder f (turned (under folder d) (under other e) same) at);
}

more_there : (most : ℕ) (d e : Disk) (folder other : Path) → Same (under folder d) (under other e) → HasMoreBytes most d folder → HasMoreBytes most e other
more_there most d e folder other same h = (h.0, h.1, (λ f at. stands_there d e folder other f same (h.2 f at)), h.3)

-- at a path below the folder both hold the same
same_below : (d e : Disk) (folder q rest : Path) → Same (under folder d) (under folder e) → Begins folder q → e (q ++ rest) ≡ d (q ++ rest)
same_below d e folder q rest same below =
    let there : q ++ rest ≡ folder ++ (below.0 ++ rest) = ap (λ p. p ++ rest) below.1 ∙ append_assoc folder below.0 rest in
    ap e there ∙ same (below.0 ++ rest) ∙ sym (ap d there)

file_there : (d e : Disk) (folder q : Path) → Same (under folder d) (under folder e) → Begins folder q → IsFile d q → IsFile e q
file_there d e folder q same below is =
    let own : e q ≡ d q = ap e (sym (append-nil q)) ∙ same_below d e folder q [] same below ∙ ap d (append-nil q) in
    subst IsSome (sym own) is

folder_there : (d e : Disk) (folder q : Path) → Same (under folder d) (under folder e) → Begins folder q → IsFolder d q → IsFolder e q
folder_there d e folder q same below is = (is.0, is.1, subst IsSome (sym (same_below d e folder q (is.0 ∷ is.1) same below)) is.2)

longer : (folder q : Path) (name : List ℕ) → Begins folder q → Begins folder (q ++ name ∷ [])
longer folder q name below = (below.0 ++ name ∷ [], ap (λ p. p ++ name ∷ []) below.1 ∙ append_assoc folder below.0 (name ∷ []))

kind_there : (d e : Disk) (folder q : Path) (kind : Bool) → Same (under folder d) (under folder e) → Begins folder q → IsAs d q kind → IsAs e q kind
kind_there d e folder q true same below is = folder_there d e folder q same below is
kind_there d e folder q false same below is = file_there d e folder q same below is

entries_there : (d e : Disk) (folder q : Path) (es : List Entry) → Same (under folder d) (under folder e) → Begins folder q → AreEntries d q es → AreEntries e q es
entries_there d e folder q es same below h = record {
  order = h.order;
  sound = λ entry at. kind_there d e folder (q ++ entry.name ∷ []) entry.folder same (longer folder q entry.name below) (h.sound entry at);
}

before_there : (d e : Disk) (folder place q : Path) → Same (under folder d) (under folder e) → FileBefore d folder place q → FileBefore e folder place q
before_there d e folder place q same h = (file_there d e folder q same h.1 h.0, h.1, h.2)

passes_there : (d e : Disk) (folder place : Path) (l : walks.Limit) → Same (under folder d) (under folder e) → Passes walk_limits d folder place l → Passes walk_limits e folder place l
passes_there d e folder place deep same h = (folder_there d e folder place same h.1 h.0, h.1, h.2)
passes_there d e folder place entries same h = (folder_there d e folder place same h.1 h.0, h.1, h.2, h.3, entries_there d e folder place h.3 same h.1 h.4, h.5)
passes_there d e folder place files same h = (file_there d e folder place same h.1 h.0, h.1, h.2, h.3, (λ q at. before_there d e folder place q same (h.4 q at)), h.5)

first_there : (d e : Disk) (folder : Path) (l : walks.Limit) → Same (under folder d) (under folder e) → IsFirst walk_limits d folder l → IsFirst walk_limits e folder l
first_there d e folder l same h = record {
  place = h.place;
  passes = passes_there d e folder h.place l same h.passes;
  none = λ q other less passes. h.none q other less (passes_there e d folder q other (turned (under folder d) (under folder e) same) passes);
}

calm_there : (d e : Disk) (folder : Path) → Same (under folder d) (under folder e) → IsCalm walk_limits d folder → IsCalm walk_limits e folder
calm_there d e folder same h q other passes = h q other (passes_there e d folder q other (turned (under folder d) (under folder e) same) passes)

-- the answer depends on what lies below the folder alone
pub answer_below_alone : (most : ℕ) (folder : Path) (answer : Result (List FileDigest) Limit) (d e : Disk) → Same (under folder d) (under folder e) → FolderIs most folder answer d → FolderIs most folder answer e
answer_below_alone most folder (Ok digests) d e same h = (
  calm_there d e folder same h.0,
  record { of = h.1.of; are = files_below_alone d e folder folder h.1.of same h.1.are; small = h.1.small; is = h.1.is },
)
answer_below_alone most folder (Err limit.Depth) d e same h = first_there d e folder deep same h
answer_below_alone most folder (Err limit.Entries) d e same h = first_there d e folder entries same h
answer_below_alone most folder (Err limit.Files) d e same h = first_there d e folder files same h
answer_below_alone most folder (Err (limit.Bytes n)) d e same h = (h.0, calm_there d e folder same h.1, more_there most d e folder folder same h.2)
answer_below_alone most folder (Err (limit.Facts n)) d e same h = absurd h
answer_below_alone most folder (Err limit.Tmp) d e same h = absurd h
answer_below_alone most folder (Err limit.Damaged) d e same h = absurd h
