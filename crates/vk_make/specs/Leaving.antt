-- What the making of a plan's packages leaves where nobody else changes the files: at each end, and wherever it stops.
use Rattle.std.specs.Prelude.{◌⊎◌, [], ◌∷◌, ℕ, List, Ok, Err}
use Rattle.std.specs.List.{Contains}
use Rattle.vk_spec.specs.Files.{Files}
use Rattle.vk_spec.specs.Standing.{Disk, disk_of, bare, under, Same, Stands}
use Rattle.vk_tree.specs.Trees.{IsTreeDisk}
use Rattle.vk_protocol.specs.Keeps.{Keeps, Alone}
use Rattle.vk_places.specs.Places.{entry_at, tmp_of, damaged_at}
use Rattle.vk_entry.specs.Packages.{File}
use Rattle.vk_make.specs.declared.answers.Mark.{Mark}
use Rattle.vk_make.specs.Makes.{Task, Work, AllMade, make_of}
use Rattle.vk_make.specs.MakeIs.{EntryStands}
use Rattle.vk_make.specs.Keeping.{IsKeptSince, CanMakeAlone}

-- ---- at an end

-- each task has its mark and its package, and its entry stands
abbrev pub EntriesStand : Work → List Task → List Mark → List (List File) → Disk → Disk → Type 0
EntriesStand w [] [] [] d e = Unit {0}
EntriesStand w [] [] (p ∷ ps) d e = ⊥
EntriesStand w [] (m ∷ ms) ps d e = ⊥
EntriesStand w (t ∷ ts) [] ps d e = ⊥
EntriesStand w (t ∷ ts) (m ∷ ms) [] d e = ⊥
EntriesStand w (t ∷ ts) (m ∷ ms) (p ∷ ps) d e = EntryStands w t m p d e × EntriesStand w ts ms ps d e

-- where all are made
abbrev pub AllStand : Work → List Task → AllMade → Disk → Disk → Type 0
AllStand w tasks (Ok items) d e = EntriesStand w tasks items.made items.packages d e
AllStand w tasks (Err why) d e = Unit {0}

-- whatever it comes to, among what is being made nothing has come, and nothing is gone
pub record Leaves (w : Work) (tasks : List Task) (result : AllMade) (d e : Disk) : Type 0 where
  pub entries : AllStand w tasks result d e
  pub tmp : Same (under (tmp_of w.cache) d) (under (tmp_of w.cache) e)

-- ---- wherever it stops

-- what stood at an entry stands there, or below a name of the agent's that was new; or nothing stood there
abbrev pub IsAtHand : Work → List ℕ → Disk → Disk → Type 0
IsAtHand w digest d e =
    Same (under (entry_at w.cache digest) d) (under (entry_at w.cache digest) e)
    ⊎ (Same bare (under (entry_at w.cache digest) d)
    ⊎ ((n : ℕ) × Same bare (under (damaged_at w.cache w.agent n) d) × Stands d (entry_at w.cache digest) × Same (under (entry_at w.cache digest) d) (under (damaged_at w.cache w.agent n) e)))

-- the files are kept, and nothing that stood at an entry is lost
pub record IsAllKept (w : Work) (tasks : List Task) (d e : Disk) : Type 0 where
  pub since : IsKeptSince w tasks d e
  pub hand : (t : Task) → Contains tasks t → IsAtHand w t.digest d e

-- one installer: after each call nothing is lost, and each end leaves what it has to
abbrev pub LeavesEntries : Type 0
LeavesEntries =
    (w : Work) (tasks : List Task) (f : Files)
    → CanMakeAlone w tasks (disk_of f) → IsTreeDisk (disk_of f)
    → Keeps (Alone (λ g. IsAllKept w tasks (disk_of f) (disk_of g))) (λ g h. IsAllKept w tasks (disk_of f) (disk_of h)) (λ result g. Leaves w tasks result (disk_of f) (disk_of g)) (make_of w tasks) f
