-- Where a path is among the files of a package, or where it would go.
use Rattle.std.specs.Prelude.{◌≡◌, ◌<◌, ◌≤◌, ℕ, List, length, slice_index_or}
use Rattle.std.specs.declared.cmp.Ordering.{Ordering}
use Rattle.std.specs.declared.cmp.Ordering.TheVariants.{Less, Equal, Greater}
use Rattle.std.specs.Ordering.{nat_cmp}
use Rattle.std.specs.Cmp.Lexicographic.{slice_cmp}
use Rattle.vk_spec.specs.Paths.{Path}
use Rattle.vk_base.specs.Paths.{text_of_path}
use Rattle.vk_entry.specs.Packages.{File}

-- how a file stands to a path
abbrev pub order_of : Path → File → Ordering
order_of path file = slice_cmp nat_cmp (text_of_path file.path) (text_of_path path)

-- the file at this place has the path
pub record IsAt (path : Path) (files : List File) (place : ℕ) : Type 0 where
  pub within : place < length files
  pub has : (d : File) → order_of path (slice_index_or files place d) ≡ Equal

-- the files before this place have lesser paths, and those from it on greater ones
pub record IsGap (path : Path) (files : List File) (place : ℕ) : Type 0 where
  pub within : place ≤ length files
  pub before : (k : ℕ) (d : File) → k < place → order_of path (slice_index_or files k d) ≡ Less
  pub after : (k : ℕ) (d : File) → place ≤ k → k < length files
      → order_of path (slice_index_or files k d) ≡ Greater
