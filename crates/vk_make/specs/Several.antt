-- Several installers on one cache, whatever the turns of their calls.
use Rattle.std.specs.Prelude.{◌≡◌, ◌≢◌, ◌≤◌, ℕ, List, length, Some, Ok, slice_get}
use Rattle.std.specs.List.{Contains}
use Rattle.sha2.specs.Sha256.{sha256}
use Rattle.vk_spec.specs.Paths.{Path}
use Rattle.vk_spec.specs.Files.{Files}
use Rattle.vk_spec.specs.Standing.{disk_of}
use Rattle.vk_entry.specs.Packages.{File}
use Rattle.vk_protocol.specs.Protocols.{ends}
use Rattle.vk_protocol.specs.Turns.{Left, goes, Turns}
use Rattle.vk_publish.specs.Entries.{AreApart}
use Rattle.vk_publish.specs.Found.{IsTellable}
use Rattle.vk_publish.specs.Shared.{Pair, IsSound}
use Rattle.vk_make.specs.declared.answers.MakeItems.{MakeItems}
use Rattle.vk_make.specs.Makes.{Task, Supplies, Work, AllMade, make_of}

-- an installer: its agent's name, its tasks, the package that is meant for each, and how many bytes these may have
pub record Installer : Type 0 where
  pub agent : List ℕ
  pub tasks : List Task
  pub packages : List (List File)
  pub most : ℕ

-- it is supplied the packages that are meant
abbrev pub meant_of : List (List File) → Supplies
meant_of packages place files = slice_get packages place

abbrev pub work_of : Path → Installer → Work
work_of cache i = record { cache = cache; agent = i.agent; most = i.most; supplies = meant_of i.packages }

-- two of these pairs whose texts have the same digest are one
abbrev pub Agrees : List Pair → Type 0
Agrees all = (one other : Pair) → Contains all one → Contains all other → sha256 one.0 ≡ sha256 other.0 → one ≡ other

-- a package whose entry a look takes for whole: a contents list can tell it, none of its files lies below another, and there are at most 50,000
pub record IsMeant (built : List File) : Type 0 where
  pub tellable : IsTellable built
  pub apart : AreApart built
  pub few : length built ≤ 50000

-- each task has the digest of its text, and a package is meant for it; the two are one of these pairs
pub record IsPrepared (all : List Pair) (i : Installer) : Type 0 where
  pub hashed : (t : Task) → Contains i.tasks t → t.digest ≡ sha256 t.text
  pub each : length i.packages ≡ length i.tasks
  pub meant : (place : ℕ) (t : Task) (built : List File) → slice_get i.tasks place ≡ Some t → slice_get i.packages place ≡ Some built → Contains all (t.text, built) × IsMeant built

-- no two have one name, and each is prepared
pub record AreInstallers (all : List Pair) (who : List Installer) : Type 0 where
  pub apart : (v w : ℕ) (i j : Installer) → v ≢ w → slice_get who v ≡ Some i → slice_get who w ≡ Some j → i.agent ≢ j.agent
  pub each : (w : ℕ) (i : Installer) → slice_get who w ≡ Some i → IsPrepared all i

-- each stands at its start
abbrev pub AtStart : Path → List Installer → List (Left AllMade) → Type 0
AtStart cache who lefts = (w : ℕ) (left : Left AllMade) → slice_get lefts w ≡ Some left → (i : Installer) × (slice_get who w ≡ Some i) × (left ≡ goes (make_of (work_of cache i) i.tasks))

-- the cache is whole, and who is done has the packages that are meant
pub record StaysWhole (all : List Pair) (cache : Path) (who : List Installer) (g : Files) (lefts : List (Left AllMade)) : Type 0 where
  pub whole : IsSound all cache (disk_of g)
  pub done : (w : ℕ) (i : Installer) (made : MakeItems) → slice_get who w ≡ Some i → slice_get lefts w ≡ Some (goes (ends (Ok made))) → made.packages ≡ i.packages

-- whatever the turns, whichever calls fail, and whoever stops
abbrev pub SeveralMake : Type 0
SeveralMake =
    (all : List Pair) (cache : Path) (who : List Installer) (turns : ℕ) (f g : Files) (before after : List (Left AllMade))
    → Agrees all → AreInstallers all who → AtStart cache who before
    → IsSound all cache (disk_of f)
    → Turns turns f before g after
    → StaysWhole all cache who g after
