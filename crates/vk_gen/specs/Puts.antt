-- What functions say besides: files that are put into a tree one after the other.
use Rattle.std.specs.Prelude.{◌≡◌, ◌&&◌, ℕ, Bool, true, false, not, nat_lt, List, [], ◌∷◌, length, IsSome}
use Rattle.std.specs.FinMap as map
use Rattle.vk_spec.specs.Paths.{Path}
use Rattle.vk_spec.specs.Files.{Files}
use Rattle.vk_spec.specs.States.{State}
use Rattle.vk_tree.specs.MemTrees.{with_file}
use Rattle.vk_gen.specs.Loads.{File}

-- files are put, and nothing else is changed
abbrev pub with_files : List File → State → State
with_files [] s = s
with_files (file ∷ files) s = with_files files (with_file file.0 file.1 s)

-- in the load the name of each file is longer than that of every folder
abbrev pub is_file_name : List ℕ → Bool
is_file_name part = nat_lt 9 (length part)

-- only the last part is a file's name
abbrev pub is_file_path : Path → Bool
is_file_path [] = false
is_file_path (part ∷ []) = is_file_name part
is_file_path (part ∷ next ∷ rest) = not (is_file_name part) && is_file_path (next ∷ rest)

-- each file stands at such a path
abbrev pub AreAtFilePaths : Files → Type 0
AreAtFilePaths files = (p : Path) → IsSome (map.get files p) → is_file_path p ≡ true
