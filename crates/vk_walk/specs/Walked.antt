-- What `walk` answers, by the files.
use Rattle.std.specs.Prelude.{[], ◌∷◌, List, Bool, true, false, Result, Ok, Err}
use Rattle.vk_spec.specs.Paths.{Path}
use Rattle.vk_spec.specs.Standing.{Disk, IsFolder}
use Rattle.vk_spec.specs.Calls.{most_entries}
use Rattle.vk_base.specs.declared.stops.Stop.{Stop}
use Rattle.vk_base.specs.declared.stops.Stop.TheVariants.{Fault, Failed, Memory}
use Rattle.vk_walk.specs.Walks.{Limits, Limit, deep, entries, files, IsFirst, IsCalm, AreFiles, AreFilesBelow}
use Rattle.vk_walk.specs.declared.walking.WalkFault.{WalkFault}
use Rattle.vk_walk.specs.declared.walking.WalkFault.TheVariants.{Missing, Deep, Entries, Files}

-- the tree failed
abbrev pub walk_stops : Stop WalkFault → Bool
walk_stops (Fault fault) = false
walk_stops Failed = true
walk_stops (Memory m) = false

abbrev pub walk_failed : {A : Type 0} → Result A (Stop WalkFault) → Bool
walk_failed (Ok x) = false
walk_failed (Err e) = walk_stops e

-- the limits of every walk
abbrev pub walk_limits : Limits
walk_limits = record { entries = most_entries; files = 1000000; depth = 64 }

-- why a walk ended, by the files: no folder, or the first limit that is passed
abbrev pub Ends : Limits → Path → Stop WalkFault → Disk → Type 0
Ends most folder (Fault Missing) d = IsFolder d folder → ⊥
Ends most folder (Fault Deep) d = IsFirst most d folder deep
Ends most folder (Fault Entries) d = IsFirst most d folder entries
Ends most folder (Fault Files) d = IsFirst most d folder files
Ends most folder Failed d = Unit {0}
Ends most folder (Memory m) d = Unit {0}

-- what a walk answers, by the files: no word of how it goes
abbrev pub WalkIs : Limits → Path → Result (List Path) (Stop WalkFault) → Disk → Type 0
WalkIs most folder (Ok found) d = AreFilesBelow d folder found × IsCalm most d folder × IsFolder d folder
WalkIs most folder (Err e) d = Ends most folder e d

-- the same before the files are put in the order of their texts
abbrev pub IsInOrder : Limits → Path → Result (List Path) (Stop WalkFault) → Disk → Type 0
IsInOrder most folder (Ok found) d = AreFiles d folder found × IsCalm most d folder × IsFolder d folder
IsInOrder most folder (Err e) d = Ends most folder e d

-- a limit that is passed, as a fault
abbrev pub fault_of : Limit → WalkFault
fault_of deep = Deep
fault_of entries = Entries
fault_of files = Files

-- what is answered of the files that were found, or of a limit
abbrev pub answered : Result (List Path) Limit → Result (List Path) (Stop WalkFault)
answered (Ok []) = Err (Fault Missing)
answered (Ok (path ∷ more)) = Ok (path ∷ more)
answered (Err limit) = Err (Fault (fault_of limit))
