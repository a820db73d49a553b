-- What the making of a plan's packages comes to where nobody else changes the files: by the files at
-- its start, and where the agent's names ran out by those at its end. What stands at the entries at
-- the end, and which names are new, tell how far it came.
use Rattle.std.specs.Prelude.{◌≡◌, ◌≤◌, ◌<◌, ◌+◌, [], ◌∷◌, ℕ, List, length, true, false, Option, Some, None, Ok, Err, codes}
use Rattle.std.specs.List.{Contains, sum_by}
use Rattle.vk_spec.specs.Paths.{Path}
use Rattle.vk_spec.specs.Lists.{NoRepeats}
use Rattle.vk_spec.specs.Files.{Files}
use Rattle.vk_spec.specs.Standing.{Disk, disk_of, bare, under, Same, Stands}
use Rattle.vk_base.specs.declared.limits.Limit as base
use Rattle.vk_base.specs.declared.limits.Limit.TheVariants as limit
use Rattle.vk_places.specs.Places.{place, entry_at, tmp_of, tmp_at, damaged_of, damaged_at}
use Rattle.vk_entry.specs.Packages.{File}
use Rattle.vk_gather.specs.GatherIs.{GatherIs}
use Rattle.vk_look.specs.LookIs.{LookIs}
use Rattle.vk_look.specs.declared.answers.Harm.{Harm}
use Rattle.vk_look.specs.declared.answers.Look.TheVariants as look
use Rattle.vk_publish.specs.Entries.{HoldsJust, entry_files}
use Rattle.vk_publish.specs.Outcomes.{HasNoName}
use Rattle.vk_make.specs.declared.answers.Mark.{Mark}
use Rattle.vk_make.specs.declared.answers.Mark.TheVariants.{Restored, Built, Rebuilt}
use Rattle.vk_make.specs.declared.answers.MakeEnd.TheVariants.{Collision, Limit, Refused}
use Rattle.vk_make.specs.Makes.{Task, Work, Item, OneMade, AllMade, Have, Planned, planned_after, next_item, with_item, none_yet, wanted_for, size_of}

-- ---- one item

-- why it has to be built: nothing stands at its entry, or a damaged entry does
abbrev pub HasToBeBuilt : Work → Item → Mark → Disk → Type 0
HasToBeBuilt w i Restored d = ⊥
HasToBeBuilt w i Built d = LookIs (wanted_for w i) (Ok look.Absent) d
HasToBeBuilt w i (Rebuilt harm) d = LookIs (wanted_for w i) (Ok (look.Damaged harm)) d

-- what is supplied by the files of its port's folder
pub record IsSupplied (w : Work) (i : Item) (answer : Option (List File)) (d : Disk) : Type 0 where
  pub gathered : List File
  pub are : GatherIs w.most i.task.folder (Ok gathered) d
  pub is : w.supplies i.place gathered ≡ answer

-- it is built: it has to be, and this package is supplied, for which there is room
pub record IsBuilt (w : Work) (i : Item) (mark : Mark) (built : List File) (d : Disk) : Type 0 where
  pub has_to : HasToBeBuilt w i mark d
  pub supplied : IsSupplied w i (Some built) d
  pub fits : size_of built ≤ i.room

-- its package: the entry's, or the one that is supplied
abbrev pub HasPackage : Work → Item → Mark → List File → Disk → Type 0
HasPackage w i Restored files d = LookIs (wanted_for w i) (Ok (look.Hit files)) d
HasPackage w i Built files d = IsBuilt w i Built files d
HasPackage w i (Rebuilt harm) files d = IsBuilt w i (Rebuilt harm) files d

-- the entry of an item that is made: as it was where it was restored, and whole where it was built
abbrev pub EntryStands : Work → Task → Mark → List File → Disk → Disk → Type 0
EntryStands w t Restored files d e = Same (under (entry_at w.cache t.digest) d) (under (entry_at w.cache t.digest) e)
EntryStands w t Built files d e = HoldsJust (entry_files t.text files) (entry_at w.cache t.digest) e
EntryStands w t (Rebuilt harm) files d e = HoldsJust (entry_files t.text files) (entry_at w.cache t.digest) e

-- how many entries were set aside for such items
abbrev pub aside_for : Mark → ℕ
aside_for Restored = 0
aside_for Built = 0
aside_for (Rebuilt harm) = 1

-- and for all of these
abbrev pub asides : List Mark → ℕ
asides marks = sum_by aside_for marks

-- a place among what was set aside, by its name
abbrev pub aside_at : Work → List ℕ → Path
aside_at w name = place w.cache (codes "damaged") name

-- nothing stood there, and something does
abbrev pub IsNewName : Work → Disk → Disk → List ℕ → Type 0
IsNewName w d e name = Same bare (under (aside_at w name) d) × Stands e (aside_at w name)

-- at least so many names are new
pub record HasNewNames (w : Work) (count : ℕ) (d e : Disk) : Type 0 where
  pub names : List (List ℕ)
  pub once : NoRepeats names
  pub many : length names ≡ count
  pub new : (name : List ℕ) → Contains names name → IsNewName w d e name

-- nothing stands at its entry: where a damaged one stood, it was set aside
abbrev pub IsCleared : Work → Item → Files → Type 0
IsCleared w i g = Same bare (under (entry_at w.cache i.task.digest) (disk_of g))

-- its entry is as it was, and no more entries than so many were set aside
abbrev pub IsLeftAlone : Work → ℕ → Item → Disk → Files → Type 0
IsLeftAlone w away i d g = Same (under (entry_at w.cache i.task.digest) d) (under (entry_at w.cache i.task.digest) (disk_of g)) × (HasNewNames w (away + 1) d (disk_of g) → ⊥)

-- a limit is passed: that of bytes by the entry, one by its port's folder, that of bytes by what is
-- supplied, or that of names where the entry is set aside, or where it is published; the entry is as
-- it was where it couldn't be set aside, and where it has to be built nothing stands there
pub data PassesLimit (w : Work) (away : ℕ) (i : Item) (d : Disk) (g : Files) : base.Limit → Type 0 where
  by_entry : LookIs (wanted_for w i) (Err (limit.Bytes i.room)) d → PassesLimit w away i d g (limit.Bytes w.most)
  by_folder : (mark : Mark) (over : base.Limit) → HasToBeBuilt w i mark d → IsCleared w i g → GatherIs w.most i.task.folder (Err over) d → PassesLimit w away i d g over
  by_package : (mark : Mark) (built : List File) → HasToBeBuilt w i mark d → IsCleared w i g → IsSupplied w i (Some built) d → i.room < size_of built → PassesLimit w away i d g (limit.Bytes w.most)
  by_damaged : (harm : Harm) (over : base.Limit) → HasToBeBuilt w i (Rebuilt harm) d → IsLeftAlone w away i d g → HasNoName limit.Damaged (damaged_of w.cache) (damaged_at w.cache w.agent) over g g → PassesLimit w away i d g over
  by_tmp : (mark : Mark) (built : List File) (over : base.Limit) → IsBuilt w i mark built d → IsCleared w i g → HasNoName limit.Tmp (tmp_of w.cache) (tmp_at w.cache w.agent) over g g → PassesLimit w away i d g over

-- what an item comes to, where so many entries were set aside for the items before it
abbrev pub ItemIs : Work → ℕ → Item → OneMade → Disk → Files → Type 0
ItemIs w away i (Ok made) d g = HasPackage w i made.mark made.files d × EntryStands w i.task made.mark made.files d (disk_of g) × HasNewNames w (away + aside_for made.mark) d (disk_of g)
ItemIs w away i (Err (Collision place)) d g = (place ≡ i.place) × (kept : List ℕ) × LookIs (wanted_for w i) (Ok (look.Collision kept)) d
ItemIs w away i (Err (Limit over)) d g = PassesLimit w away i d g over
ItemIs w away i (Err Refused) d g = (mark : Mark) × HasToBeBuilt w i mark d × IsCleared w i g × IsSupplied w i None d

-- ---- all items

-- what follows an item: the next one, or nothing
abbrev pub Follows : (Have → AllMade → Type 0) → Have → OneMade → AllMade → Type 0
Follows More have (Ok made) result = More (with_item have made) result
Follows More have (Err why) result = result ≡ Err why

-- a digest that an earlier item has is a collision; any other item comes to what the files say
abbrev pub ItemsAre : Work → List Planned → Have → AllMade → Disk → Files → Type 0
ItemsAre w [] have result d g = result ≡ Ok have.items
ItemsAre w ((t, true) ∷ later) have result d g = result ≡ Err (Collision (length have.items.packages))
ItemsAre w ((t, false) ∷ later) have result d g = (one : OneMade) × ItemIs w (asides have.items.made) (next_item t have) one d g × Follows (λ h r. ItemsAre w later h r d g) have one result

-- what all of them come to
abbrev pub MadeIs : Work → List Task → AllMade → Disk → Files → Type 0
MadeIs w tasks result d g = ItemsAre w (planned_after [] tasks) (none_yet w.most) result d g
