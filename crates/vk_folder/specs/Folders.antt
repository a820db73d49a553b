-- The files of a folder with their bytes, and what is answered of them.
use Rattle.std.specs.Prelude.{◌≡◌, ◌≤◌, ◌<◌, ◌++◌, [], ◌∷◌, ℕ, List, length, Bool, Some, IfSome, Result, Ok, Err, IfErr}
use Rattle.std.specs.List.{All, Contains, sum_by}
use Rattle.std.specs.Prelude.{map}
use Rattle.std.specs.declared.cmp.Ordering.TheVariants.{Less}
use Rattle.sha2.specs.Sha256.{sha256}
use Rattle.vk_spec.specs.Paths.{Path}
use Rattle.vk_spec.specs.Lists.{NoRepeats}
use Rattle.vk_spec.specs.States.{State, OnlyRead}
use Rattle.vk_spec.specs.Standing.{Disk}
use Rattle.vk_base.specs.Paths.{IsPath}
use Rattle.vk_base.specs.Stops.{stop_fault_in}
use Rattle.vk_base.specs.declared.limits.Limit.{Limit}
use Rattle.vk_base.specs.declared.limits.Limit.TheVariants as limit
use Rattle.vk_base.specs.declared.stops.Stop.{Stop}
use Rattle.vk_base.specs.declared.stops.Stop.TheVariants.{Fault, Failed, Memory}
use Rattle.vk_walk.specs.Walks.{deep, entries, files, IsFirst, IsCalm, text_order}
use Rattle.vk_walk.specs.Walked.{walk_limits}
use Rattle.vk_folder.specs.declared.digests.FileDigest.{FileDigest}

-- a file, by its path as it is seen from its folder, and its bytes
pub record File : Type 0 where
  pub path : Path
  pub bytes : List ℕ

-- it stands below the folder
abbrev pub StandsBelow : Disk → Path → File → Type 0
StandsBelow d folder f = (part : List ℕ) × (rest : Path) × (f.path ≡ (46 ∷ []) ∷ part ∷ rest) × (d (folder ++ part ∷ rest) ≡ Some f.bytes)

-- the text of each path comes before those of the later ones
abbrev pub ByText : List File → Type 0
ByText [] = Unit {0}
ByText (f ∷ fs) = ((g : File) → Contains fs g → text_order f.path g.path ≡ Less) × ByText fs

-- the files below a folder, in the order of the texts of their paths
pub record AreFilesOf (d : Disk) (folder : Path) (fs : List File) : Type 0 where
  pub order : ByText fs
  pub sound : (f : File) → Contains fs f → StandsBelow d folder f
  pub all : (f : File) → StandsBelow d folder f → Contains fs f

-- how many bytes files have together
abbrev pub bytes_of : List File → ℕ
bytes_of fs = sum_by (λ f. length f.bytes) fs

-- some files below a folder, each once, have more bytes together
abbrev pub HasMoreBytes : ℕ → Disk → Path → Type 0
HasMoreBytes most d folder = (fs : List File) × NoRepeats fs × ((f : File) → Contains fs f → StandsBelow d folder f) × (most < bytes_of fs)

-- a file's digest
abbrev pub digest_of : File → FileDigest
digest_of f = record { path = f.path; digest = record { bytes = sha256 f.bytes } }

-- each stands at a path
abbrev pub AtPaths : List FileDigest → Type 0
AtPaths digests = All (λ f. IsPath f.path) digests

-- the digests of all files below a folder, which have at most so many bytes together
pub record AreDigests (most : ℕ) (d : Disk) (folder : Path) (digests : List FileDigest) : Type 0 where
  pub of : List File
  pub are : AreFilesOf d folder of
  pub small : bytes_of of ≤ most
  pub is : digests ≡ map digest_of of

-- the digests, or the limit that is passed: that of a walk before that of bytes
abbrev pub FolderIs : ℕ → Path → Result (List FileDigest) Limit → Disk → Type 0
FolderIs most folder (Ok digests) d = IsCalm walk_limits d folder × AreDigests most d folder digests
FolderIs most folder (Err limit.Depth) d = IsFirst walk_limits d folder deep
FolderIs most folder (Err limit.Entries) d = IsFirst walk_limits d folder entries
FolderIs most folder (Err limit.Files) d = IsFirst walk_limits d folder files
FolderIs most folder (Err (limit.Bytes n)) d = (n ≡ most) × IsCalm walk_limits d folder × HasMoreBytes most d folder
FolderIs most folder (Err (limit.Facts n)) d = ⊥
FolderIs most folder (Err limit.Tmp) d = ⊥
FolderIs most folder (Err limit.Damaged) d = ⊥

-- the same of a call that may have been stopped
abbrev pub FolderTold : ℕ → Path → Result (List FileDigest) (Stop Limit) → Disk → Type 0
FolderTold most folder (Ok digests) d = FolderIs most folder (Ok digests) d
FolderTold most folder (Err (Fault fault)) d = FolderIs most folder (Err fault) d
FolderTold most folder (Err Failed) d = Unit {0}
FolderTold most folder (Err (Memory m)) d = Unit {0}

-- the limits that a folder may pass: those of a walk, and that of so many bytes
abbrev pub IsFolderLimit : ℕ → Limit → Type 0
IsFolderLimit most limit.Depth = Unit {0}
IsFolderLimit most limit.Entries = Unit {0}
IsFolderLimit most limit.Files = Unit {0}
IsFolderLimit most (limit.Bytes n) = n ≡ most
IsFolderLimit most (limit.Facts n) = ⊥
IsFolderLimit most limit.Tmp = ⊥
IsFolderLimit most limit.Damaged = ⊥

-- where the answer is a limit, this holds of it
abbrev pub OnLimit : {A : Type 0} → Result A (Stop Limit) → (Limit → Type 0) → Type 0
OnLimit result P = IfErr result (λ e. IfSome (stop_fault_in e) P)

-- paths of a kind were asked for, and nothing else was done
pub record ReadsOnly (May : Path → Type 0) (failed : Bool) (before after : State) : Type 0 where
  pub only : OnlyRead failed before after
  pub within : (path : Path) → Contains only.asked path → May path
