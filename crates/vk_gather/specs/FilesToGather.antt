-- The files of a folder that are left to read.
use Rattle.std.specs.Prelude.{◌≡◌, ◌++◌, [], ◌∷◌, List, map}
use Rattle.std.specs.List.{All}
use Rattle.std.specs.List.Sorted.{IsStrictlySortedBy}
use Rattle.std.specs.Ordering.{nat_cmp}
use Rattle.std.specs.Cmp.Lexicographic.{slice_cmp}
use Rattle.vk_spec.specs.Paths.{Path}
use Rattle.vk_base.specs.Paths.{parts_of, text_of_path}
use Rattle.vk_entry.specs.Packages.{File, texts_of}
use Rattle.vk_gather.specs.Gathers.{Gathered}

-- the next one, those that come later, and the files that were read
pub record FilesToGather : Type 0 where
  pub next : Path
  pub later : List Path
  pub so_far : Gathered

-- a path as it is seen from a folder
abbrev pub IsSeen : Path → Type 0
IsSeen seen = seen ≡ (46 ∷ []) ∷ parts_of seen

-- the texts of the paths ascend over what was read and what is left
pub record Follow (files : List File) (paths : List Path) : Type 0 where
  pub ascend : IsStrictlySortedBy (slice_cmp nat_cmp) (texts_of files ++ map text_of_path paths)
  pub seen : All IsSeen paths
