-- The files of a folder as they are read, one after the other.
use Rattle.std.proofs.Common.{◌≡◌, ◌+◌, inl, inr, ℕ, List, [], ◌∷◌, ◌++◌, map, length, refl, ap, sym, ◌∙◌, subst, arith}
use Rattle.std.proofs.lemmas.List.{map-append, append-nil, append_assoc}
use Rattle.std.proofs.lemmas.List.Elements.{Contains-append_right, Contains-push_cases}
use Rattle.std.proofs.lemmas.List.Sums.{sum_by-append, sum_by-cons}
use Rattle.std.specs.Prelude.{false, Option, Some, None, IfSome, IsSome, Ok, Err}
use Rattle.std.specs.List.{Contains}
use Rattle.std.specs.List.Sorted.{IsSorted}
use Rattle.vk_spec.specs.Lists.{NoRepeats}
use Rattle.vk_spec.specs.Paths.{Path}
use Rattle.vk_spec.specs.States.{Told, State}
use Rattle.vk_spec.specs.Standing.{Disk, disk_of, OnFiles, IsFolder}
use Rattle.vk_spec.proofs.FileLemmas.{none_some}
use Rattle.vk_spec.proofs.ListLemmas.{contains_first}
use Rattle.vk_base.specs.Paths.{IsPath}
use Rattle.vk_base.specs.declared.limits.Limit.{Limit}
use Rattle.vk_base.specs.declared.limits.Limit.TheVariants.{Bytes}
use Rattle.vk_base.specs.declared.stops.Stop.{Stop}
use Rattle.vk_base.specs.declared.stops.Stop.TheVariants.{Fault, Failed}
use Rattle.vk_base.specs.declared.stops.Stop.TheVariants as stop
use Rattle.vk_tree.specs.Trees.{IsTreeDisk}
use Rattle.vk_walk.specs.Walks.{text_order}
use Rattle.vk_tree.proofs.OnFilesLemmas.{files_two, files_back}
use Rattle.vk_folder.specs.declared.digests.FileDigest.{FileDigest}
use Rattle.vk_folder.specs.declared.hashing.Hashed.{Hashed}
use Rattle.vk_folder.specs.declared.rooms.Room.{Room}
use Rattle.vk_folder.specs.Folders.{File, StandsBelow, bytes_of, HasMoreBytes, digest_of, AreDigests}
use Rattle.vk_folder.specs.Hashed.{OnlyPieces, SeenIs, IsAdded, AddedIs, AreSeenFiles, DigestsTold}
use Rattle.vk_folder.proofs.MemberLemmas.{mapped_from, mapped_once}
use Rattle.vk_folder.proofs.PieceLemmas.{same_bytes, files_three}
use Rattle.vk_folder.proofs.TextLemmas.{tails_same, by_text}

abbrev pub paths_of : List File → List Path
paths_of fs = map (λ f. f.path) fs

-- the first paths were dealt with, and these are left
pub record SoFar (most : ℕ) (folder : Path) (paths left : List Path) (room : Room) (digests : List FileDigest) (d : Disk) : Type 0 where
  pub of : List File
  pub split : paths ≡ paths_of of ++ left
  pub stand : (f : File) → Contains of f → StandsBelow d folder f
  pub written : (f : File) → Contains of f → IsPath f.path
  pub most_is : room.most ≡ most
  pub bytes : room.left + bytes_of of ≡ most
  pub are : digests ≡ map digest_of of

-- ---- files

-- a file's path below its folder isn't the folder's own
stands_below : (d : Disk) (folder seen rest : Path) (all : List ℕ) → IsTreeDisk d → IsFolder d folder → seen ≡ (46 ∷ []) ∷ rest → d (folder ++ rest) ≡ Some all → StandsBelow d folder (record { path = seen; bytes = all })
stands_below d folder seen [] all tree is_folder is at =
    let own : d folder ≡ Some all = ap d (sym (append-nil folder)) ∙ at in
    absurd (none_some (d (folder ++ is_folder.0 ∷ is_folder.1)) (tree folder is_folder.0 is_folder.1 (subst IsSome (sym own) refl)) is_folder.2)
stands_below d folder seen (part ∷ rest) all tree is_folder is at = (part, rest, is, at)

file_same : (f g : File) → f.path ≡ g.path → f.bytes ≡ g.bytes → f ≡ g
file_same f g paths bytes = λ i. record { path = paths i; bytes = bytes i }

-- one file stands at one path
pub below_same : (d : Disk) (folder : Path) (f g : File) → StandsBelow d folder f → StandsBelow d folder g → f.path ≡ g.path → f ≡ g
below_same d folder f g one other paths =
    let parts : one.0 ∷ one.1 ≡ other.0 ∷ other.1 = tails_same (46 ∷ []) (46 ∷ []) (one.0 ∷ one.1) (other.0 ∷ other.1) (sym one.2 ∙ paths ∙ other.2) in
    file_same f g paths (same_bytes f.bytes g.bytes (sym one.3 ∙ ap (λ l. d (folder ++ l)) parts ∙ other.3))

-- ---- one step

-- the next path is one of the paths
next_there : (most : ℕ) (folder : Path) (paths left : List Path) (room : Room) (digests : List FileDigest) (x : Path) (d : Disk) → SoFar most folder paths (x ∷ left) room digests d → Contains paths x
next_there most folder paths left room digests x d s = subst (λ l. Contains l x) (sym s.split) (Contains-append_right (paths_of s.of) (x ∷ left) x (contains_first x left))

one_path : (of : List File) (f : File) (left : List Path) → paths_of of ++ f.path ∷ left ≡ paths_of (of ++ f ∷ []) ++ left
one_path of f left = sym (append_assoc (paths_of of) (f.path ∷ []) left) ∙ ap (λ l. l ++ left) (sym (map-append (λ x. x.path) of (f ∷ [])))

one_more_bytes : (of : List File) (f : File) → bytes_of (of ++ f ∷ []) ≡ bytes_of of + length f.bytes
one_more_bytes of f = omega (arith, sum_by-append (λ x. length x.bytes) of (f ∷ []), sum_by-cons (λ x. length x.bytes) f [])

-- of a file more it is known where it stands
one_stands : (d : Disk) (folder : Path) (of : List File) (f : File) → StandsBelow d folder f → ((g : File) → Contains of g → StandsBelow d folder g) → (g : File) → Contains (of ++ f ∷ []) g → StandsBelow d folder g
one_stands d folder of f one all g at = elim (Contains-push_cases of f g at) [ inl old ↦ all g old | inr same ↦ subst (StandsBelow d folder) same one ]

one_written : (of : List File) (f : File) → IsPath f.path → ((g : File) → Contains of g → IsPath g.path) → (g : File) → Contains (of ++ f ∷ []) g → IsPath g.path
one_written of f one all g at = elim (Contains-push_cases of f g at) [ inl old ↦ all g old | inr same ↦ subst (λ h. IsPath h.path) same one ]

step : (most : ℕ) (folder : Path) (paths left : List Path) (room : Room) (digests : List FileDigest) (x : Path) (file : Hashed) (d : Disk) → IsPath x → AreSeenFiles folder paths d
    → SeenIs folder x room (Ok (Some file)) d → SoFar most folder paths (x ∷ left) room digests d → SoFar most folder paths left file.room (digests ++ record { path = x; digest = file.digest } ∷ []) d
step most folder paths left room digests x file d path seen told s =
    let at = seen.sound x (next_there most folder paths left room digests x d s) in
    let h = told at.0 at.1 in
    let f : File = record { path = x; bytes = h.1 } in
    let less = h.3 in
    record {
      of = s.of ++ f ∷ [];
      split = s.split ∙ one_path s.of f left;
      stand = one_stands d folder s.of f (stands_below d folder x at.0 h.1 h.0 at.3 at.1 h.2) s.stand;
      written = one_written s.of f path s.written;
      most_is = less.0 ∙ s.most_is;
      bytes = omega (arith, s.bytes, less.1, one_more_bytes s.of f);
      are = ap (λ l. l ++ record { path = x; digest = file.digest } ∷ []) s.are ∙ ap (λ b. map digest_of s.of ++ record { path = x; digest = record { bytes = b } } ∷ []) h.4 ∙ sym (map-append digest_of s.of (f ∷ []));
    }

-- a file that a walk told is there
not_gone : (most : ℕ) (folder : Path) (paths left : List Path) (room : Room) (digests : List FileDigest) (x : Path) (d : Disk) → AreSeenFiles folder paths d
    → SeenIs folder x room (Ok None) d → SoFar most folder paths (x ∷ left) room digests d → ⊥
not_gone most folder paths left room digests x d seen told s =
    let at = seen.sound x (next_there most folder paths left room digests x d s) in
    none_some (d (folder ++ at.0)) (told at.0 at.1) at.2

-- with the next path dealt with
next : (most : ℕ) (folder : Path) (paths left : List Path) (room after : Room) (old new : List FileDigest) (x : Path) (file : Option Hashed) (d : Disk) → IsPath x → AreSeenFiles folder paths d
    → SeenIs folder x room (Ok file) d → IsAdded x room file old after new → SoFar most folder paths (x ∷ left) room old d → SoFar most folder paths left after new d
next most folder paths left room after old new x None d path seen told added s = absurd (not_gone most folder paths left room old x d seen told s)
next most folder paths left room after old new x (Some file) d path seen told added s =
    let one : SoFar most folder paths left file.room (old ++ record { path = x; digest = file.digest } ∷ []) d = step most folder paths left room old x file d path seen told s in
    subst (λ r. SoFar most folder paths left r new d) (sym added.0) (subst (λ l. SoFar most folder paths left file.room l d) (sym added.1) one)

-- ---- the end

too_many : (most : ℕ) (folder : Path) (paths left : List Path) (room : Room) (digests : List FileDigest) (x : Path) (fault : Limit) (d : Disk) → AreSeenFiles folder paths d
    → SeenIs folder x room (Err (Fault fault)) d → SoFar most folder paths (x ∷ left) room digests d → (fault ≡ Bytes most) × HasMoreBytes most d folder
too_many most folder paths left room digests x fault d seen told s =
    let at = seen.sound x (next_there most folder paths left room digests x d s) in
    let h = told at.0 at.1 in
    let f : File = record { path = x; bytes = h.2 } in
    let past = h.4 in
    let more : HasMoreBytes most d folder = (
      s.of ++ f ∷ [],
      mapped_once (λ g. g.path) (s.of ++ f ∷ []) left (subst NoRepeats (s.split ∙ one_path s.of f left) seen.once),
      one_stands d folder s.of f (stands_below d folder x at.0 h.2 h.0 at.3 at.1 h.3) s.stand,
      omega (arith, s.bytes, past, one_more_bytes s.of f),
    ) in
    (h.1 ∙ ap Bytes s.most_is, more)

end : (most : ℕ) (folder : Path) (paths : List Path) (room : Room) (digests : List FileDigest) (d : Disk) → AreSeenFiles folder paths d → SoFar most folder paths [] room digests d → AreDigests most d folder digests
end most folder paths room digests d seen s =
    let whole : paths ≡ paths_of s.of = s.split ∙ append-nil (paths_of s.of) in
    record {
      of = s.of;
      are = record {
        order = by_text s.of (subst (IsSorted text_order) whole seen.order) (subst NoRepeats whole seen.once) s.written (λ f at. (let b = s.stand f at in (b.0, b.1, b.2)));
        sound = s.stand;
        all = λ f b.
            let there : Contains paths f.path = subst (Contains paths) (sym b.2) (seen.all b.0 b.1 (subst IsSome (sym b.3) refl)) in
            let r = mapped_from (λ g. g.path) s.of f.path (subst (λ l. Contains l f.path) whole there) in
            subst (Contains s.of) (below_same d folder r.0 f (s.stand r.0 r.1) b r.2) r.1;
      };
      small = omega (arith, s.bytes);
      is = s.are;
    }

-- ---- where the files are told

all_told : (P : Disk → Type 0) (x : Option Told) → ((d : Disk) → P d) → IfSome x (λ t. P (disk_of t.files))
all_told P None h = tt
all_told P (Some t) h = h (disk_of t.files)

-- what holds of every disk
pub on_all : (P : Disk → Type 0) (s : State) → ((d : Disk) → P d) → OnFiles P s
on_all P s h = all_told P s.told h

pub next_on : (most : ℕ) (folder : Path) (paths left : List Path) (room after : Room) (old new : List FileDigest) (x : Path) {a b : State} → IsPath x → OnlyPieces folder false a b → OnFiles (AreSeenFiles folder paths) a
    → OnFiles (AddedIs folder x room old (Ok after) new) b → OnFiles (SoFar most folder paths (x ∷ left) room old) a → OnFiles (SoFar most folder paths left after new) a
next_on most folder paths left room after old new x {a = a} path read seen added so_far =
    files_three (AreSeenFiles folder paths) (AddedIs folder x room old (Ok after) new) (SoFar most folder paths (x ∷ left) room old) (SoFar most folder paths left after new) a
    (λ d h k l. next most folder paths left room after old new x k.0 d path h k.1 k.2 l) seen (files_back (AddedIs folder x room old (Ok after) new) read.reads.only added) so_far

stopped_at : (most : ℕ) (folder : Path) (paths left : List Path) (room : Room) (digests : List FileDigest) (x : Path) (e : Stop Limit) (s : State) → OnFiles (AreSeenFiles folder paths) s
    → OnFiles (SeenIs folder x room (Err e)) s → OnFiles (SoFar most folder paths (x ∷ left) room digests) s → OnFiles (DigestsTold most folder (Err e)) s
stopped_at most folder paths left room digests x (Fault fault) s seen told so_far =
    files_three (AreSeenFiles folder paths) (SeenIs folder x room (Err (Fault fault))) (SoFar most folder paths (x ∷ left) room digests) (DigestsTold most folder (Err (Fault fault))) s
    (λ d. too_many most folder paths left room digests x fault d) seen told so_far
stopped_at most folder paths left room digests x Failed s seen told so_far = on_all (DigestsTold most folder (Err Failed)) s (λ d. tt)
stopped_at most folder paths left room digests x (stop.Memory m) s seen told so_far = on_all (DigestsTold most folder (Err (stop.Memory m))) s (λ d. tt)

pub stopped_on : (most : ℕ) (folder : Path) (paths left : List Path) (room : Room) (digests : List FileDigest) (x : Path) (e : Stop Limit) {a b : State} → OnlyPieces folder false a b → OnFiles (AreSeenFiles folder paths) a
    → OnFiles (SeenIs folder x room (Err e)) b → OnFiles (SoFar most folder paths (x ∷ left) room digests) a → OnFiles (DigestsTold most folder (Err e)) a
stopped_on most folder paths left room digests x e {a = a} read seen told so_far =
    stopped_at most folder paths left room digests x e a seen (files_back (SeenIs folder x room (Err e)) read.reads.only told) so_far

pub end_on : (most : ℕ) (folder : Path) (paths left : List Path) (room : Room) (digests : List FileDigest) (s : State) → left ≡ [] → OnFiles (AreSeenFiles folder paths) s → OnFiles (SoFar most folder paths left room digests) s
    → OnFiles (DigestsTold most folder (Ok digests)) s
end_on most folder paths left room digests s none seen so_far =
    files_two (AreSeenFiles folder paths) (SoFar most folder paths [] room digests) (DigestsTold most folder (Ok digests)) s
    (λ d. end most folder paths room digests d) seen (subst (λ l. OnFiles (SoFar most folder paths l room digests) s) none so_far)
