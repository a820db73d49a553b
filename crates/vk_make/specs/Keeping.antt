-- What the making of a plan's packages keeps wherever it stops, where nobody else changes the files.
use Rattle.std.specs.Prelude.{◌≡◌, ◌⊎◌, ℕ, List, Some, Ok, slice_get}
use Rattle.std.specs.List.{Contains}
use Rattle.vk_spec.specs.Paths.{Path, Begins}
use Rattle.vk_spec.specs.Files.{Files}
use Rattle.vk_spec.specs.Standing.{Disk, disk_of, bare, under, Same, Else}
use Rattle.vk_base.specs.Names.{IsName, word_rule}
use Rattle.vk_tree.specs.Trees.{IsTreeDisk}
use Rattle.vk_protocol.specs.Keeps.{Keeps, Alone}
use Rattle.vk_places.specs.Places.{entry_at, tmp_at, damaged_at}
use Rattle.vk_entry.specs.ContentLists.{IsDigest}
use Rattle.vk_entry.specs.Packages.{File}
use Rattle.vk_gather.specs.GatherIs.{HasPaths}
use Rattle.vk_look.specs.LookIs.{LookIs, wanted_in}
use Rattle.vk_look.specs.declared.answers.Harm.{Harm}
use Rattle.vk_look.specs.declared.answers.Look.TheVariants as look
use Rattle.vk_publish.specs.Entries.{AreApart, HoldsJust, entry_files}
use Rattle.vk_publish.specs.Outcomes.{IsClear}
use Rattle.vk_make.specs.declared.answers.Mark.{Mark}
use Rattle.vk_make.specs.Makes.{Task, Work, make_of}
use Rattle.vk_make.specs.MakeIs.{IsBuilt, MadeIs}

-- a damaged entry stood there, and nothing does now
pub record IsSetAside (w : Work) (t : Task) (d e : Disk) : Type 0 where
  pub room : ℕ
  pub harm : Harm
  pub was : LookIs (wanted_in w.cache t.digest t.text room) (Ok (look.Damaged harm)) d
  pub now : Same bare (under (entry_at w.cache t.digest) e)

-- the whole entry stands there, as it is built
pub record IsWhole (w : Work) (place : ℕ) (t : Task) (d e : Disk) : Type 0 where
  pub room : ℕ
  pub mark : Mark
  pub built : List File
  pub is : IsBuilt w (record { task = t; place = place; room = room }) mark built d
  pub now : HoldsJust (entry_files t.text built) (entry_at w.cache t.digest) e

-- at the entry of a digest stands what stood there, or what a task with this digest leaves there
abbrev pub IsLeft : Work → List Task → List ℕ → Disk → Disk → Type 0
IsLeft w tasks digest d e =
    Same (under (entry_at w.cache digest) d) (under (entry_at w.cache digest) e)
    ⊎ ((place : ℕ) × (t : Task) × (slice_get tasks place ≡ Some t) × (t.digest ≡ digest) × (IsSetAside w t d e ⊎ IsWhole w place t d e))

-- a place at or below a name of the agent's, where nothing stood
abbrev pub IsNew : (ℕ → Path) → Disk → Path → Type 0
IsNew named d q = (n : ℕ) × Same bare (under (named n) d) × Begins (named n) q

-- a place at or below the entry of a task
abbrev pub IsOfTask : Work → List Task → Path → Type 0
IsOfTask w tasks q = (t : Task) × Contains tasks t × Begins (entry_at w.cache t.digest) q

-- entries are as they were, set aside or whole; besides, only new names of the agent have come
pub record IsKeptSince (w : Work) (tasks : List Task) (d e : Disk) : Type 0 where
  pub entries : (t : Task) → Contains tasks t → IsLeft w tasks t.digest d e
  pub others : Else (λ q. IsNew (tmp_at w.cache w.agent) d q ⊎ (IsNew (damaged_at w.cache w.agent) d q ⊎ IsOfTask w tasks q)) d e

-- what has to be seen to: names, digests, folders that the cache is apart from, and files of packages of which none lies below another
pub record CanMakeAlone (w : Work) (tasks : List Task) (d : Disk) : Type 0 where
  pub named : IsName word_rule w.agent
  pub clear : IsClear w.cache d
  pub digests : (t : Task) → Contains tasks t → IsDigest t.digest
  pub below : (t : Task) → Contains tasks t → Begins w.cache t.folder → ⊥
  pub above : (t : Task) → Contains tasks t → Begins t.folder w.cache → ⊥
  pub paths : (t : Task) → Contains tasks t → HasPaths t.folder d
  pub apart : (place : ℕ) (gathered built : List File) → w.supplies place gathered ≡ Some built → AreApart built

-- one installer, whoever fails and wherever it stops: the calls may be made, after each the files are kept so, and what it comes to is what the files at its start say
abbrev pub MakesAlone : Type 0
MakesAlone =
    (w : Work) (tasks : List Task) (f : Files)
    → CanMakeAlone w tasks (disk_of f) → IsTreeDisk (disk_of f)
    → Keeps (Alone (λ g. IsKeptSince w tasks (disk_of f) (disk_of g))) (λ g h. IsKeptSince w tasks (disk_of f) (disk_of h)) (λ result g. MadeIs w tasks result (disk_of f) g) (make_of w tasks) f
