-- What each part of the work is given, and what it leaves.
use Rattle.std.specs.Prelude.{◌≡◌, ◌<◌, ◌+◌, ◌++◌, [], ◌∷◌, ℕ, List, length, take, drop, Bool, Option, Some, None, Result, Ok, Err}
use Rattle.std.specs.List.{Contains}
use Rattle.std.specs.List.Sorted.{IsSorted}
use Rattle.sha2.specs.Sha256.{sha256}
use Rattle.vk_spec.specs.Paths.{Path, Begins}
use Rattle.vk_spec.specs.Lists.{NoRepeats}
use Rattle.vk_spec.specs.States.{State, IsNarrow}
use Rattle.vk_spec.specs.Standing.{Disk, IsFile, IsFolder}
use Rattle.vk_base.specs.declared.limits.Limit.{Limit}
use Rattle.vk_base.specs.declared.limits.Limit.TheVariants as limit
use Rattle.vk_base.specs.declared.stops.Stop.{Stop}
use Rattle.vk_base.specs.declared.stops.Stop.TheVariants as stop
use Rattle.vk_base.specs.declared.stops.Outage.{Outage}
use Rattle.vk_base.specs.declared.stops.Outage.TheVariants as outage
use Rattle.vk_digest.specs.Runs.{Holds}
use Rattle.vk_digest.specs.declared.DigestRun.{DigestRun}
use Rattle.vk_tree.specs.Trees.{IsTreeDisk}
use Rattle.vk_walk.specs.Walks.{deep, entries, files, IsFirst, IsCalm, text_order}
use Rattle.vk_walk.specs.Walked.{walk_limits}
use Rattle.vk_tree.specs.declared.trees.ReadFault.{ReadFault}
use Rattle.vk_tree.specs.declared.trees.ReadFault.TheVariants as read
use Rattle.vk_walk.specs.declared.walking.WalkFault.{WalkFault}
use Rattle.vk_walk.specs.declared.walking.WalkFault.TheVariants as walk
use Rattle.vk_folder.specs.declared.digests.FileDigest.{FileDigest}
use Rattle.vk_folder.specs.declared.hashing.Hashed.{Hashed}
use Rattle.vk_folder.specs.declared.rooms.Room.{Room}
use Rattle.vk_folder.specs.Folders.{AreDigests, HasMoreBytes, ReadsOnly}

-- ---- room

-- so many bytes fewer are left
abbrev pub IsLess : Room → ℕ → Room → Type 0
IsLess before bytes after = (after.most ≡ before.most) × (after.left + bytes ≡ before.left)

abbrev pub Took : Room → ℕ → Result Room (Stop Limit) → Type 0
Took room bytes (Ok after) = IsLess room bytes after
Took room bytes (Err (stop.Fault fault)) = (fault ≡ limit.Bytes room.most) × (room.left < bytes)
Took room bytes (Err stop.Failed) = ⊥
Took room bytes (Err (stop.Memory m)) = ⊥

-- ---- pieces

-- the most bytes of a piece
abbrev pub most_piece : ℕ
most_piece = 65536

-- folders were listed, pieces were read of files whose paths this one begins, and nothing else was done
pub record OnlyPieces (place : Path) (failed : Bool) (before after : State) : Type 0 where
  pub reads : ReadsOnly (Begins place) failed before after
  pub narrow : IsNarrow most_piece before after

-- what is found where a piece is asked for
abbrev pub found_in : Result (List ℕ) (Stop ReadFault) → Result (Option (List ℕ)) Outage
found_in (Ok piece) = Ok (Some piece)
found_in (Err (stop.Fault read.Missing)) = Ok None
found_in (Err (stop.Fault read.TooLarge)) = Ok None
found_in (Err stop.Failed) = Err outage.Failed
found_in (Err (stop.Memory m)) = Err (outage.Memory m)

abbrev pub PieceIs : Path → ℕ → Result (Option (List ℕ)) Outage → Disk → Type 0
PieceIs path at (Ok (Some piece)) d = (all : List ℕ) × (d path ≡ Some all) × (piece ≡ take most_piece (drop at all))
PieceIs path at (Ok None) d = d path ≡ None
PieceIs path at (Err e) d = Unit {0}

-- the file has more bytes than there is room for
abbrev pub IsOver : Path → Room → Limit → Disk → Type 0
IsOver path room fault d = IsTreeDisk d × (fault ≡ limit.Bytes room.most) × (all : List ℕ) × (d path ≡ Some all) × (room.left < length all)

-- a file was given to a run
abbrev pub FedIs : Path → Room → DigestRun → DigestRun → Result (Option Room) (Stop Limit) → Disk → Type 0
FedIs path room old new (Ok (Some after)) d = IsTreeDisk d × (all : List ℕ) × (d path ≡ Some all) × IsLess room (length all) after
    × ((message : List ℕ) → Holds old message → Holds new (message ++ all))
FedIs path room old new (Ok None) d = d path ≡ None
FedIs path room old new (Err (stop.Fault fault)) d = IsOver path room fault d
FedIs path room old new (Err stop.Failed) d = Unit {0}
FedIs path room old new (Err (stop.Memory m)) d = Unit {0}

-- a file's digest
abbrev pub HashedIs : Path → Room → Result (Option Hashed) (Stop Limit) → Disk → Type 0
HashedIs path room (Ok (Some file)) d = IsTreeDisk d × (all : List ℕ) × (d path ≡ Some all) × IsLess room (length all) file.room × (file.digest.bytes ≡ sha256 all)
HashedIs path room (Ok None) d = d path ≡ None
HashedIs path room (Err (stop.Fault fault)) d = IsOver path room fault d
HashedIs path room (Err stop.Failed) d = Unit {0}
HashedIs path room (Err (stop.Memory m)) d = Unit {0}

-- the same of a file that is seen from a folder
abbrev pub SeenIs : Path → Path → Room → Result (Option Hashed) (Stop Limit) → Disk → Type 0
SeenIs folder seen room result d = (rest : Path) → seen ≡ (46 ∷ []) ∷ rest → HashedIs (folder ++ rest) room result d

-- with its path, where there is one
abbrev pub IsAdded : Path → Room → Option Hashed → List FileDigest → Room → List FileDigest → Type 0
IsAdded seen room None old after new = (after ≡ room) × (new ≡ old)
IsAdded seen room (Some file) old after new = (after ≡ file.room) × (new ≡ old ++ record { path = seen; digest = file.digest } ∷ [])

-- a file's digest was added, or the file isn't there
abbrev pub AddedIs : Path → Path → Room → List FileDigest → Result Room (Stop Limit) → List FileDigest → Disk → Type 0
AddedIs folder seen room old (Ok after) new d = (file : Option Hashed) × SeenIs folder seen room (Ok file) d × IsAdded seen room file old after new
AddedIs folder seen room old (Err e) new d = SeenIs folder seen room (Err e) d

-- ---- the files of a folder

-- paths of files as they are seen from a folder, in the order of their texts; none where it has none
pub record AreSeenFiles (folder : Path) (paths : List Path) (d : Disk) : Type 0 where
  pub order : IsSorted text_order paths
  pub once : NoRepeats paths
  pub sound : (q : Path) → Contains paths q → (rest : Path) × (q ≡ (46 ∷ []) ∷ rest) × IsFile d (folder ++ rest) × IsFolder d folder
  pub all : (part : List ℕ) (rest : Path) → IsFile d (folder ++ part ∷ rest) → Contains paths ((46 ∷ []) ∷ part ∷ rest)

-- what there is where a folder wasn't walked
abbrev pub unwalked : Stop WalkFault → Result (List Path) (Stop Limit)
unwalked (stop.Fault walk.Missing) = Ok []
unwalked (stop.Fault walk.Deep) = Err (stop.Fault limit.Depth)
unwalked (stop.Fault walk.Entries) = Err (stop.Fault limit.Entries)
unwalked (stop.Fault walk.Files) = Err (stop.Fault limit.Files)
unwalked stop.Failed = Err stop.Failed
unwalked (stop.Memory m) = Err (stop.Memory m)

-- the limit of a walk that is passed first
abbrev pub IsFirstLimit : Path → Limit → Disk → Type 0
IsFirstLimit folder limit.Depth d = IsFirst walk_limits d folder deep
IsFirstLimit folder limit.Entries d = IsFirst walk_limits d folder entries
IsFirstLimit folder limit.Files d = IsFirst walk_limits d folder files
IsFirstLimit folder (limit.Bytes n) d = ⊥
IsFirstLimit folder (limit.Facts n) d = ⊥
IsFirstLimit folder limit.Tmp d = ⊥
IsFirstLimit folder limit.Damaged d = ⊥

abbrev pub PathsTold : Path → Result (List Path) (Stop Limit) → Disk → Type 0
PathsTold folder (Ok paths) d = IsCalm walk_limits d folder × AreSeenFiles folder paths d
PathsTold folder (Err (stop.Fault fault)) d = IsFirstLimit folder fault d
PathsTold folder (Err stop.Failed) d = Unit {0}
PathsTold folder (Err (stop.Memory m)) d = Unit {0}

-- the digests of a folder's files, whatever its depth
abbrev pub DigestsTold : ℕ → Path → Result (List FileDigest) (Stop Limit) → Disk → Type 0
DigestsTold most folder (Ok digests) d = AreDigests most d folder digests
DigestsTold most folder (Err (stop.Fault fault)) d = (fault ≡ limit.Bytes most) × HasMoreBytes most d folder
DigestsTold most folder (Err stop.Failed) d = Unit {0}
DigestsTold most folder (Err (stop.Memory m)) d = Unit {0}
