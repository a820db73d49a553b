-- The listed files that are left to read.
use Rattle.std.specs.Prelude.{◌++◌, List, map, Option, Some, None}
use Rattle.std.specs.List.Sorted.{IsStrictlySortedBy}
use Rattle.std.specs.Ordering.{nat_cmp}
use Rattle.std.specs.Cmp.Lexicographic.{slice_cmp}
use Rattle.vk_base.specs.Paths.{text_of_path}
use Rattle.vk_entry.specs.Packages.{File, texts_of}
use Rattle.vk_entry.specs.Contents.{Content}

-- the next one, those that come later, and the files that were read, where they are kept
pub record FilesToRead : Type 0 where
  pub next : Content
  pub later : List Content
  pub files : Option (List File)

-- the texts of the paths ascend over what was read and what is left
abbrev pub Follow : Option (List File) → List Content → Type 0
Follow None cs = Unit {0}
Follow (Some files) cs = IsStrictlySortedBy (slice_cmp nat_cmp) (texts_of files ++ map (λ c. text_of_path c.path) cs)
