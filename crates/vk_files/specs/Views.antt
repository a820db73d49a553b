-- What contracts see of what is kept, and of an archive.
use Rattle.std.specs.Prelude.{Bool, map, Option}
use Rattle.std.specs.Cmp.Lexicographic.{pointwise}
use Rattle.std.specs.Str.{bytes_eq}
use Rattle.std.specs.Map.{lookup}
use Rattle.vk_spec.specs.Paths.{Path}
use Rattle.vk_spec.specs.States.{State}
use Rattle.vk_files.specs.Kept.{Seen, absent, too_large, holds, Kept, Held}
use Rattle.vk_files.specs.declared.found.Found.{Found}
use Rattle.vk_files.specs.declared.found.Found.TheVariants as found
use Rattle.vk_files.specs.declared.caches.FileCache.{FileCache}

-- paths are one where their parts are
abbrev pub same_path : Path → Path → Bool
same_path = pointwise bytes_eq

abbrev pub seen_view : Found → Seen
seen_view found.Absent = absent
seen_view found.TooLarge = too_large
seen_view (found.Bytes b) = holds b.bytes

-- what is kept, in the order in which it was asked for
abbrev pub kept_of : FileCache → Kept
kept_of cache = map (λ e. (e.0, seen_view e.1)) cache.found.entries

-- what is kept of a path
abbrev pub kept_at : Path → Kept → Option Seen
kept_at path kept = lookup (same_path path) kept

-- a tree, with what a cache keeps of it
abbrev pub cached : FileCache → State → Held
cached cache tree = record { kept = kept_of cache; tree = tree }

-- what contracts see of an archive: what was read, by path, and the tree
pub record ArchiveView (T : Type 0) : Type 0 where
  pub kept : Kept
  pub tree : T

-- the same, by what is known of the tree
abbrev pub held : {T : Type 0} → (T → State) → ArchiveView T → Held
held state archive = record { kept = archive.kept; tree = state archive.tree }
