-- What a walk of a folder told, or why it wasn't walked, and what follows for its files.
use Rattle.std.proofs.Common.{◌≡◌, ◌≤◌, ℕ, List, [], ◌∷◌, ◌++◌, length, false, refl, ap, sym, ◌∙◌, subst, arith}
use Rattle.std.proofs.lemmas.List.{append-nil, append_assoc}
use Rattle.std.specs.Prelude.{IsSome, Result, Ok, Err}
use Rattle.std.specs.List.{Contains}
use Rattle.std.specs.declared.cmp.Ordering.TheVariants.{Less}
use Rattle.vk_spec.specs.Paths.{Path, path_cmp, Begins}
use Rattle.vk_spec.specs.States.{State, OnlyListed}
use Rattle.vk_spec.specs.Standing.{Disk, OnFiles, IsFile, IsFolder}
use Rattle.vk_spec.proofs.ListLemmas.{contains_nothing, contains_first}
use Rattle.vk_base.specs.Stops.{has_failed}
use Rattle.vk_base.specs.declared.limits.Limit.{Limit}
use Rattle.vk_base.specs.declared.stops.Stop.{Stop}
use Rattle.vk_base.specs.declared.stops.Stop.TheVariants.{Fault, Failed, Memory}
use Rattle.vk_walk.specs.Walks.{deep, entries, files, FileBefore, IsCalm}
use Rattle.vk_walk.specs.Walked.{walk_limits, walk_failed, Ends, WalkIs}
use Rattle.vk_walk.specs.declared.walking.WalkFault.{WalkFault}
use Rattle.vk_walk.specs.declared.walking.WalkFault.TheVariants.{Missing, Deep, Entries, Files}
use Rattle.vk_tree.proofs.PlaceLemmas.{not_before_own}
use Rattle.vk_tree.proofs.OnFilesLemmas.{files_then, files_two, files_back}
use Rattle.vk_folder.specs.declared.digests.FileDigest.{FileDigest}
use Rattle.vk_folder.specs.Folders.{FolderIs, FolderTold}
use Rattle.vk_folder.specs.Hashed.{OnlyPieces, AreSeenFiles, PathsTold, DigestsTold, unwalked}
use Rattle.vk_folder.proofs.PieceLemmas.{pieces_listed}

-- ---- where nothing lies below the folder

longer_folder : (d : Disk) (folder rest : Path) (part : List ℕ) (more : Path) → IsSome (d (folder ++ (rest ++ part ∷ more))) → IsFolder d folder
longer_folder d folder [] part more is = (part, more, is)
longer_folder d folder (first ∷ rest) part more is = (first, rest ++ part ∷ more, is)

-- a folder below makes it one
folder_above : (d : Disk) (folder q : Path) → Begins folder q → IsFolder d q → IsFolder d folder
folder_above d folder q below is =
    longer_folder d folder below.0 is.0 is.1 (subst (λ p. IsSome (d p)) (ap (λ p. p ++ is.0 ∷ is.1) below.1 ∙ append_assoc folder below.0 (is.0 ∷ is.1)) is.2)

-- a file that lies at the folder itself has none before it
own_file : (d : Disk) (folder q b rest : Path) → (IsFolder d folder → ⊥) → q ≡ folder ++ rest → IsFile d q → FileBefore d folder q b → ⊥
own_file d folder q b [] none is file before =
    let own : q ≡ folder = is ∙ append-nil folder in
    not_before_own folder before.1.0 (subst (λ p. path_cmp p folder ≡ Less) before.1.1 (subst (λ p. path_cmp b p ≡ Less) own before.2))
own_file d folder q b (part ∷ rest) none is file before = none (part, rest, subst (λ p. IsSome (d p)) is file)

no_file : (d : Disk) (folder q : Path) (before : List Path) → (IsFolder d folder → ⊥) → IsFile d q → Begins folder q → ((b : Path) → Contains before b → FileBefore d folder q b) → 1000000 ≤ length before → ⊥
no_file d folder q [] none file below all many = omega (arith, many)
no_file d folder q (b ∷ bs) none file below all many = own_file d folder q b below.0 none below.1 file (all b (contains_first b bs))

nothing_calm : (d : Disk) (folder : Path) → (IsFolder d folder → ⊥) → IsCalm walk_limits d folder
nothing_calm d folder none q deep passes = none (folder_above d folder q passes.1 passes.0)
nothing_calm d folder none q entries passes = none (folder_above d folder q passes.1 passes.0)
nothing_calm d folder none q files passes = no_file d folder q passes.2 none passes.0 passes.1 passes.4 passes.5

nothing_seen : (d : Disk) (folder : Path) → (IsFolder d folder → ⊥) → AreSeenFiles folder [] d
nothing_seen d folder none = record {
  order = λ k e low high. absurd (omega (arith, high));
  once = tt;
  sound = λ q at. absurd (contains_nothing q at);
  all = λ part rest is. absurd (none (part, rest, is));
}

-- ---- what the walk told

seen_by : (folder : Path) (found : List Path) (d : Disk) → WalkIs walk_limits folder (Ok found) d → PathsTold folder (Ok found) d
seen_by folder found d h = (
  h.1,
  record {
    order = h.0.order;
    once = h.0.once;
    sound = λ q at. (let s = h.0.sound q at in (s.0, s.1, s.2, h.2));
    all = λ part rest is. h.0.all (part ∷ rest) is;
  },
)

unseen_by : (folder : Path) (stop : Stop WalkFault) (d : Disk) → Ends walk_limits folder stop d → PathsTold folder (unwalked stop) d
unseen_by folder (Fault Missing) d h = (nothing_calm d folder h, nothing_seen d folder h)
unseen_by folder (Fault Deep) d h = h
unseen_by folder (Fault Entries) d h = h
unseen_by folder (Fault Files) d h = h
unseen_by folder Failed d h = tt
unseen_by folder (Memory m) d h = tt

pub seen_on : (folder : Path) (found : List Path) (s : State) → OnFiles (WalkIs walk_limits folder (Ok found)) s → OnFiles (PathsTold folder (Ok found)) s
seen_on folder found s h = files_then (WalkIs walk_limits folder (Ok found)) (PathsTold folder (Ok found)) s (seen_by folder found) h

pub unseen_on : (folder : Path) (stop : Stop WalkFault) (s : State) → OnFiles (WalkIs walk_limits folder (Err stop)) s → OnFiles (PathsTold folder (unwalked stop)) s
unseen_on folder stop s h = files_then (WalkIs walk_limits folder (Err stop)) (PathsTold folder (unwalked stop)) s (unseen_by folder stop) h

-- a walk that isn't done fails as it is told
unwalked_alike : (stop : Stop WalkFault) → walk_failed {A = List Path} (Err stop) ≡ has_failed (unwalked stop)
unwalked_alike (Fault Missing) = refl
unwalked_alike (Fault Deep) = refl
unwalked_alike (Fault Entries) = refl
unwalked_alike (Fault Files) = refl
unwalked_alike Failed = refl
unwalked_alike (Memory m) = refl

pub unwalked_reads : {place : Path} (stop : Stop WalkFault) {a b : State} → OnlyListed (walk_failed {A = List Path} (Err stop)) a b → OnlyPieces place (has_failed (unwalked stop)) a b
unwalked_reads {place = place} stop {a = a} {b = b} x = subst (λ f. OnlyPieces place f a b) (unwalked_alike stop) (pieces_listed x)

-- ---- what the files say

files_told : (most : ℕ) (folder : Path) (result : Result (List FileDigest) (Stop Limit)) (d : Disk) → IsCalm walk_limits d folder → DigestsTold most folder result d → FolderTold most folder result d
files_told most folder (Ok digests) d calm h = (calm, h)
files_told most folder (Err (Fault fault)) d calm h = subst (λ f. FolderIs most folder (Err f) d) (sym h.0) (refl, calm, h.1)
files_told most folder (Err Failed) d calm h = tt
files_told most folder (Err (Memory m)) d calm h = tt

pub files_on_start : (most : ℕ) (folder : Path) (paths : List Path) (result : Result (List FileDigest) (Stop Limit)) {a b : State} → OnlyPieces folder false a b → OnFiles (PathsTold folder (Ok paths)) a → OnFiles (DigestsTold most folder result) b → OnFiles (FolderTold most folder result) a
files_on_start most folder paths result {a = a} read h k =
    files_two (PathsTold folder (Ok paths)) (DigestsTold most folder result) (FolderTold most folder result) a (λ d p q. files_told most folder result d p.0 q) h (files_back (DigestsTold most folder result) read.reads.only k)
