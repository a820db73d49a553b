-- Several agents that publish into one cache, whatever the turns of their calls.
use Rattle.std.specs.Prelude.{◌≡◌, ◌≢◌, ◌⊎◌, ℕ, List, Some, Result, Ok, Err, codes, slice_get}
use Rattle.std.specs.List.{Contains}
use Rattle.hex.specs.Hex.{encode_lower}
use Rattle.sha2.specs.Sha256.{sha256}
use Rattle.vk_spec.specs.Paths.{Path, Begins}
use Rattle.vk_spec.specs.Files.{Files}
use Rattle.vk_spec.specs.Standing.{Disk, disk_of, bare, under, Same, Else, Stands}
use Rattle.vk_spec.specs.Calls.{Moves}
use Rattle.vk_base.specs.declared.limits.Limit.{Limit}
use Rattle.vk_tree.specs.Trees.{IsTreeDisk}
use Rattle.vk_entry.specs.Packages.{File}
use Rattle.vk_protocol.specs.Protocols.{Protocol, ends}
use Rattle.vk_protocol.specs.Turns.{Left, goes, Turns}
use Rattle.vk_places.specs.Places.{place, tmp_at}
use Rattle.vk_publish.specs.Entries.{entry_files, HoldsJust, AreApart}
use Rattle.vk_publish.specs.Publish.{publish_of}
use Rattle.vk_publish.specs.Outcomes.{IsClear}
use Rattle.vk_publish.specs.declared.answers.Published.{Published}
use Rattle.vk_publish.specs.declared.answers.Published.TheVariants as published

-- a text, and the package that belongs to it
abbrev pub Pair : Type 0
Pair = List ℕ × List File

-- the name of its entry
abbrev pub name_of : Pair → List ℕ
name_of pair = encode_lower (sha256 pair.0)

-- a name among the entries
abbrev pub named_at : Path → List ℕ → Path
named_at cache name = place cache (codes "abi2") name

-- there stands the whole entry of one of these pairs, which has this name
pub record IsEntry (all : List Pair) (cache : Path) (name : List ℕ) (d : Disk) : Type 0 where
  pub pair : Pair
  pub member : Contains all pair
  pub named : name ≡ name_of pair
  pub whole : HoldsJust (entry_files pair.0 pair.1) (named_at cache name) d

-- what always holds: at each name is nothing or such an entry, and no file is in the way
pub record IsSound (all : List Pair) (cache : Path) (d : Disk) : Type 0 where
  pub whole : (name : List ℕ) → Same bare (under (named_at cache name) d) ⊎ IsEntry all cache name d
  pub clear : IsClear cache d
  pub tree : IsTreeDisk d

-- what one call of an agent does: something below its own names, or one of these becomes an entry where nothing stood
pub data Effect (all : List Pair) (cache : Path) (agent : List ℕ) (d e : Disk) : Type 0 where
  quiet : Else (λ q. (n : ℕ) × Begins (tmp_at cache agent n) q) d e → Effect all cache agent d e
  moved : (n : ℕ) (name : List ℕ) → Moves (tmp_at cache agent n) (named_at cache name) d e → (Stands d (named_at cache name) → ⊥) → IsEntry all cache name e → Effect all cache agent d e

-- what the others may do: an entry that stands stays, and so does all below this agent's names
pub record Others (cache : Path) (agent : List ℕ) (d e : Disk) : Type 0 where
  pub kept : (name : List ℕ) → Stands d (named_at cache name) → Same (under (named_at cache name) d) (under (named_at cache name) e)
  pub own : (n : ℕ) → Same (under (tmp_at cache agent n) d) (under (tmp_at cache agent n) e)

pub record Later (all : List Pair) (cache : Path) (agent : List ℕ) (f g : Files) : Type 0 where
  pub others : Others cache agent (disk_of f) (disk_of g)
  pub sound : IsSound all cache (disk_of g)

-- an agent that has published, or found an entry there, has a whole one
abbrev pub EndsWhole : List Pair → Path → List ℕ → Result Published Limit → Files → Type 0
EndsWhole all cache name (Ok published.Now) g = IsEntry all cache name (disk_of g)
EndsWhole all cache name (Ok published.Already) g = IsEntry all cache name (disk_of g)
EndsWhole all cache name (Ok published.Gone) g = ⊥
EndsWhole all cache name (Err over) g = Unit {0}

-- the publishing of a pair
abbrev pub pair_of : Path → List ℕ → Pair → Protocol (Result Published Limit)
pair_of cache agent pair = publish_of cache agent (sha256 pair.0) (entry_files pair.0 pair.1)

-- whatever the turns, whichever calls fail, and whoever stops: the cache stays sound, and who has ended has a whole entry
abbrev pub SeveralPublish : Type 0
SeveralPublish =
    (all : List Pair) (cache : Path) (agents : ℕ → List ℕ) (pairs : ℕ → Pair)
    → ((one other : ℕ) → one ≢ other → agents one ≢ agents other)
    → ((who : ℕ) → Contains all (pairs who) × AreApart (pairs who).1)
    → (turns : ℕ) (f g : Files) (before after : List (Left (Result Published Limit)))
    → ((who : ℕ) (left : Left (Result Published Limit)) → slice_get before who ≡ Some left → left ≡ goes (pair_of cache (agents who) (pairs who)))
    → IsSound all cache (disk_of f)
    → Turns turns f before g after
    → IsSound all cache (disk_of g)
    × ((who : ℕ) (x : Result Published Limit) → slice_get after who ≡ Some (goes (ends x)) → EndsWhole all cache (name_of (pairs who)) x g)
