-- A tree in memory: what is known of it, and what its calls do.
use Rattle.std.specs.Prelude.{◌≡◌, ◌/◌, ◌⊎◌, ℕ, Bool, true, List, [], length, take, max, Option, Some, None}
use Rattle.std.specs.FinMap as map
use Rattle.vk_spec.specs.Paths.{Path}
use Rattle.vk_spec.specs.Files.{Files}
use Rattle.vk_spec.specs.States.{Told, State}
use Rattle.vk_base.specs.Schedules.{turn_of, is_calm, is_wrong, with_call, raised}
use Rattle.vk_spec.specs.Standing.{Disk}
use Rattle.vk_spec.specs.Calls.{Answer, Says, read_of, piece_of}
use Rattle.vk_tree.specs.declared.mem_trees.MemTree.{MemTree}
use Rattle.vk_tree.specs.declared.mem_trees.Asked.{Asked}
use Rattle.vk_tree.specs.declared.mem_trees.Asked.TheVariants.{Whole, Piece}
use Rattle.vk_base.specs.declared.schedules.Schedule.{Schedule}

-- the bytes at each path
abbrev pub mem_files : MemTree → Files
mem_files m = m.files

-- the paths that it was asked to read
abbrev pub mem_log : MemTree → List Path
mem_log m = m.log

-- which calls are to fail
abbrev pub mem_schedule : MemTree → Schedule
mem_schedule m = m.schedule

-- what is known of it
abbrev pub mem_state : MemTree → State
mem_state m = record {
  told = Some (record { files = m.files; log = m.log });
  changes = m.changes;
  faults = m.faults;
  calls = m.schedule.calls;
  widest = m.widest;
  sure = is_calm m.schedule;
}

-- a tree without files
pub record IsNewTree (m : MemTree) : Type 0 where
  pub state : mem_state m ≡ record { told = Some (record { files = map.empty; log = [] }); changes = 0; faults = 0; calls = 0; widest = 0; sure = true }
  pub calm : is_calm (mem_schedule m) ≡ true

-- a file is put, and nothing else is changed
abbrev pub told_with_file : Path → List ℕ → Option Told → Option Told
told_with_file path bytes None = None
told_with_file path bytes (Some t) = Some (record { files = map.insert t.files path bytes; log = t.log })

abbrev pub with_file : Path → List ℕ → State → State
with_file path bytes s = record s { told = told_with_file path bytes s.told }

-- it goes by another schedule, and all else stays
abbrev pub with_schedule : Schedule → MemTree → MemTree
with_schedule schedule m = record m { schedule = schedule }

-- which call fails, besides what every tree does: exactly the one whose turn it is
pub record MemCalls (failed : Bool) (before after : MemTree) : Type 0 where
  pub turn : failed ≡ is_wrong (turn_of (mem_schedule before))
  pub faults : (mem_state after).faults ≡ raised failed (mem_state before).faults
  pub schedule : mem_schedule after ≡ with_call (mem_schedule before)

-- a call that is to give so many bytes is counted, and is a fault where it is to fail
abbrev pub called : ℕ → MemTree → MemTree
called width m = record m { widest = max m.widest width; faults = raised (is_wrong (turn_of m.schedule)) m.faults; schedule = with_call m.schedule }

-- what a write that failed leaves: the first half of the bytes, or, out of memory, what stood there
abbrev pub IsHalfPut : Path → List ℕ → Files → Files → Type 0
IsHalfPut path bytes before after = (after ≡ map.insert before path (take (length bytes / 2) bytes)) ⊎ (after ≡ before)

-- what a read of a file, or of a piece of one, answers by what stands there
abbrev pub SaysAsked : Path → Asked → Answer (List ℕ) → Disk → Type 0
SaysAsked path (Whole limit) answer d = Says (read_of path limit) answer d
SaysAsked path (Piece at most) answer d = Says (piece_of path at most) answer d

-- the most bytes that it may give
abbrev pub most_for : Asked → ℕ
most_for (Whole limit) = limit
most_for (Piece at most) = most
