-- The files below a folder, and the first limit that a walk by sorted names passes. Nothing here
-- speaks of a walk that goes on: a limit is passed at a place, and the order of places is that of paths.
use Rattle.std.specs.Prelude.{◌≡◌, ◌≤◌, ◌<◌, ◌+◌, ◌++◌, [], ◌∷◌, ℕ, List, length}
use Rattle.std.specs.Ordering.{nat_cmp}
use Rattle.std.specs.List.Sorted.{IsSorted}
use Rattle.std.specs.declared.cmp.Ordering.{Ordering}
use Rattle.std.specs.Cmp.Lexicographic.{slice_cmp}
use Rattle.vk_base.specs.Paths.{text_of_path}
use Rattle.std.specs.List.{Contains}
use Rattle.std.specs.declared.cmp.Ordering.TheVariants.{Less}
use Rattle.vk_spec.specs.Paths.{Path, path_cmp, Begins}
use Rattle.vk_spec.specs.Lists.{NoRepeats}
use Rattle.vk_spec.specs.Standing.{Disk, IsFile, IsFolder, Entry, AreEntries}
use Rattle.vk_tree.specs.Listing.{IsAscending}

-- how many there may be
pub record Limits : Type 0 where
  pub entries : ℕ
  pub files : ℕ
  pub depth : ℕ

pub data Limit : Type 0 where
  deep : Limit
  entries : Limit
  files : Limit

-- a file that stands below the folder, before a place
abbrev pub FileBefore : Disk → Path → Path → Path → Type 0
FileBefore d folder place q = IsFile d q × Begins folder q × (path_cmp q place ≡ Less)

-- a limit is passed at a place below the folder: `deep` at a folder that lies too deep, `entries`
-- at one that has too many, `files` at a file before which there are already as many as may be
abbrev pub Passes : Limits → Disk → Path → Path → Limit → Type 0
Passes most d folder place deep = IsFolder d place × Begins folder place × (length folder + most.depth < length place)
Passes most d folder place entries = IsFolder d place × Begins folder place × (length place ≤ length folder + most.depth) × (es : List Entry) × AreEntries d place es × (most.entries < length es)
Passes most d folder place files = IsFile d place × Begins folder place × (before : List Path) × NoRepeats before × ((q : Path) → Contains before q → FileBefore d folder place q) × (most.files ≤ length before)

-- the first place in the order of paths, which is that of a walk by sorted names
pub record IsFirst (most : Limits) (d : Disk) (folder : Path) (limit : Limit) : Type 0 where
  pub place : Path
  pub passes : Passes most d folder place limit
  pub none : (q : Path) (other : Limit) → path_cmp q place ≡ Less → Passes most d folder q other → ⊥

-- no limit is passed
abbrev pub IsCalm : Limits → Disk → Path → Type 0
IsCalm most d folder = (q : Path) (other : Limit) → Passes most d folder q other → ⊥

-- the files below a folder, each once, in the order of their paths
pub record AreFiles (d : Disk) (folder : Path) (paths : List Path) : Type 0 where
  pub order : IsAscending paths
  pub sound : (q : Path) → Contains paths q → IsFile d q × Begins folder q
  pub all : (q : Path) → IsFile d q → Begins folder q → Contains paths q

-- the order of paths by the bytes of their texts
abbrev pub text_order : Path → Path → Ordering
text_order p q = slice_cmp nat_cmp (text_of_path p) (text_of_path q)

-- the same files as they are seen from the folder, each once, by the bytes of their texts
pub record AreFilesBelow (d : Disk) (folder : Path) (paths : List Path) : Type 0 where
  pub order : IsSorted text_order paths
  pub once : NoRepeats paths
  pub sound : (q : Path) → Contains paths q → (rest : Path) × (q ≡ (46 ∷ []) ∷ rest) × IsFile d (folder ++ rest)
  pub all : (rest : Path) → IsFile d (folder ++ rest) → Contains paths ((46 ∷ []) ∷ rest)

-- paths as they are seen from a folder, for those that it begins
pub record AreSeen (folder : Path) (paths seen : List Path) : Type 0 where
  pub sound : (q : Path) → Contains seen q → (rest : Path) × (q ≡ (46 ∷ []) ∷ rest) × Contains paths (folder ++ rest)
  pub all : (rest : Path) → Contains paths (folder ++ rest) → Contains seen ((46 ∷ []) ∷ rest)
  pub once : NoRepeats paths → NoRepeats seen
