-- What was found in a tree, by path: each path is found once.
use Rattle.std.specs.Prelude.{◌≡◌, ◌++◌, ℕ, Bool, List, length, map, nat_lt, Option, Some, None, IfSome, if◌then◌else◌}
use Rattle.std.specs.FinMap as files_map
use Rattle.vk_spec.specs.Paths.{Path}
use Rattle.vk_spec.specs.Files.{Files}
use Rattle.vk_spec.specs.States.{State, Looks, IsNarrow}
use Rattle.vk_files.specs.Notes.{AreRight}

-- the longest file that is read, in bytes
abbrev pub most_bytes : ℕ
most_bytes = 16777216

-- what stands at a path
pub data Seen : Type 0 where
  absent : Seen
  too_large : Seen
  holds : List ℕ → Seen

abbrev pub seen_in : Option (List ℕ) → Seen
seen_in None = absent
seen_in (Some bytes) = if nat_lt most_bytes (length bytes) then too_large else holds bytes

abbrev pub seen_at : Path → Files → Seen
seen_at path files = seen_in (files_map.get files path)

-- paths, each with what stood there, in the order in which they were asked for
abbrev pub Kept : Type 0
Kept = List (Path × Seen)

abbrev pub paths_of : Kept → List Path
paths_of kept = map (λ e. e.0) kept

-- what is kept of each path is what the files have there
abbrev pub IsSeen : Files → Path → Seen → Type 0
IsSeen files path seen = seen ≡ seen_at path files

abbrev pub IsOf : Files → Kept → Type 0
IsOf files kept = AreRight (IsSeen files) kept

-- a tree, and what is kept of it
pub record Held : Type 0 where
  pub kept : Kept
  pub tree : State

-- what is kept is what the tree has, where it tells its files
abbrev pub IsFaithful : Held → Type 0
IsFaithful held = IfSome held.tree.told (λ t. IsOf t.files held.kept)

-- these paths were found, and what stands there is kept after what was kept before; no call was to give more bytes than the longest file has, and nothing else was done. That none of them was kept before is what every archive keeps (`Archive::known`)
pub record ReadOnce (failed : Bool) (before after : Held) : Type 0 where
  pub more : Kept
  pub kept : after.kept ≡ before.kept ++ more
  pub looks : Looks (paths_of more) failed before.tree after.tree
  pub narrow : IsNarrow most_bytes before.tree after.tree
  pub right : IfSome before.tree.told (λ t. IsOf t.files more)
