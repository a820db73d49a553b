-- A package: files in the order of the texts of their paths. No two paths have one text.
use Rattle.std.specs.Prelude.{◌≡◌, ◌≤◌, ◌<◌, ◌++◌, ◌∷◌, [], ℕ, Bool, true, false, List, length, map}
use Rattle.std.specs.Prelude.{Option, Some, None, if◌then◌else◌}
use Rattle.std.specs.List.{Contains}
use Rattle.std.specs.List.Sorted.{IsStrictlySortedBy}
use Rattle.std.specs.Ordering.{nat_cmp}
use Rattle.std.specs.Cmp.Lexicographic.{slice_cmp}
use Rattle.std.specs.Str.{bytes_eq}
use Rattle.vk_spec.specs.Paths.{Path}
use Rattle.vk_base.specs.Paths.{is_rooted, ups_of, parts_of, text_of_path}

-- a file: its path, and its bytes
pub record File : Type 0 where
  pub path : Path
  pub bytes : List ℕ

abbrev pub texts_of : List File → List (List ℕ)
texts_of files = map (λ file. text_of_path file.path) files

-- the texts of the paths ascend byte by byte, so none stands twice
abbrev pub IsPackage : List File → Type 0
IsPackage files = IsStrictlySortedBy (slice_cmp nat_cmp) (texts_of files)

-- a file stands at the path
abbrev pub HasFile : Path → List File → Type 0
HasFile path files = Contains (texts_of files) (text_of_path path)

-- the bytes of the file at the path, if one stands there
abbrev pub bytes_at : Path → List File → Option (List ℕ)
bytes_at path [] = None
bytes_at path (file ∷ files) =
    if bytes_eq (text_of_path file.path) (text_of_path path) then Some file.bytes
    else bytes_at path files

-- a file has the path and these bytes
abbrev pub IsOf : Path → List ℕ → List File → Type 0
IsOf path bytes files =
    (file : File) × Contains files file × (text_of_path file.path ≡ text_of_path path)
    × (file.bytes ≡ bytes)

-- new has this file and the files of old, in their order
pub record IsWith (file : File) (old new : List File) : Type 0 where
  pub front : List File
  pub back : List File
  pub was : old ≡ front ++ back
  pub is : new ≡ front ++ file ∷ back

-- a file is put into a package: it is new there, or its path is taken and nothing changes
abbrev pub Puts : File → List File → Bool → List File → Type 0
Puts file old true new = (HasFile file.path old → ⊥) × IsWith file old new
Puts file old false new = HasFile file.path old × (new ≡ old)

-- a path that a package's files may have: not rooted, without steps up, and with one to 60 parts
pub record IsPackagePath (path : Path) : Type 0 where
  pub unrooted : is_rooted path ≡ false
  pub level : ups_of path ≡ 0
  pub some : 0 < length (parts_of path)
  pub few : length (parts_of path) ≤ 60
