-- What a gathering comes to, by the files that stand there: no word of how it is done.
use Rattle.std.specs.Prelude.{◌≡◌, ◌≤◌, ◌++◌, [], ◌∷◌, ℕ, List, map, Result, Ok, Err}
use Rattle.vk_spec.specs.Paths.{Path}
use Rattle.vk_spec.specs.Standing.{Disk, IsFile}
use Rattle.vk_base.specs.Paths.{IsPath}
use Rattle.vk_base.specs.declared.limits.Limit.{Limit}
use Rattle.vk_base.specs.declared.limits.Limit.TheVariants as limit
use Rattle.vk_walk.specs.Walks.{deep, entries, files, IsFirst, IsCalm}
use Rattle.vk_walk.specs.Walked.{walk_limits}
use Rattle.vk_folder.specs.Folders as folders
use Rattle.vk_folder.specs.Folders.{AreFilesOf, HasMoreBytes, bytes_of}
use Rattle.vk_entry.specs.Packages.{File}

-- every file below the folder stands at a path
abbrev pub HasPaths : Path → Disk → Type 0
HasPaths folder d = (part : List ℕ) (rest : Path) → IsFile d (folder ++ part ∷ rest) → IsPath ((46 ∷ []) ∷ part ∷ rest)

-- a package's file, as a folder's
abbrev pub folder_file : File → folders.File
folder_file file = record { path = file.path; bytes = file.bytes }

-- all files below the folder, in the order of the texts of their paths, with at most so many bytes together
pub record AreGathered (most : ℕ) (d : Disk) (folder : Path) (found : List File) : Type 0 where
  pub are : AreFilesOf d folder (map folder_file found)
  pub small : bytes_of (map folder_file found) ≤ most

-- the files, or the limit that is passed: that of a walk before that of bytes
abbrev pub GatherIs : ℕ → Path → Result (List File) Limit → Disk → Type 0
GatherIs most folder (Ok found) d = IsCalm walk_limits d folder × AreGathered most d folder found
GatherIs most folder (Err limit.Depth) d = IsFirst walk_limits d folder deep
GatherIs most folder (Err limit.Entries) d = IsFirst walk_limits d folder entries
GatherIs most folder (Err limit.Files) d = IsFirst walk_limits d folder files
GatherIs most folder (Err (limit.Bytes n)) d = (n ≡ most) × IsCalm walk_limits d folder × HasMoreBytes most d folder
GatherIs most folder (Err (limit.Facts n)) d = ⊥
GatherIs most folder (Err limit.Tmp) d = ⊥
GatherIs most folder (Err limit.Damaged) d = ⊥
