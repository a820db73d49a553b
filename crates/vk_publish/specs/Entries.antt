-- What an entry holds.
use Rattle.std.specs.Prelude.{◌≡◌, ◌++◌, [], ◌∷◌, ℕ, List, map}
use Rattle.std.specs.List.{Contains}
use Rattle.vk_spec.specs.Paths.{Path, Begins}
use Rattle.vk_spec.specs.Standing.{Disk, bare, under, put, Same}
use Rattle.vk_base.specs.Paths.{parts_of}
use Rattle.vk_entry.specs.Packages.{File}
use Rattle.vk_entry.specs.Contents.{content_of, contents_text}
use Rattle.vk_places.specs.Places.{text_at, contents_at, file_at}

-- bytes, and where they stand below a path
abbrev pub Placed : Type 0
Placed = Path × List ℕ

abbrev pub placed_file : File → Placed
placed_file file = (file_at [] file.path, file.bytes)

-- the list of what the package contains, and the text, which is last
abbrev pub last_files : List ℕ → List File → List Placed
last_files text files = (contents_at [], contents_text (map content_of files)) ∷ (text_at [], text) ∷ []

-- all files of an entry, in the order in which they are written
abbrev pub entry_files : List ℕ → List File → List Placed
entry_files text files = map placed_file files ++ last_files text files

abbrev pub put_all : List Placed → Disk → Disk
put_all [] d = d
put_all (x ∷ xs) d = put_all xs (put x.0 x.1 d)

-- these files stand below the path, and nothing else
abbrev pub HoldsJust : List Placed → Path → Disk → Type 0
HoldsJust files at d = Same (put_all files bare) (under at d)

-- no file of a package lies below another
abbrev pub AreApart : List File → Type 0
AreApart files =
    (one other : File) → Contains files one → Contains files other
    → Begins (parts_of one.path) (parts_of other.path) → parts_of one.path ≡ parts_of other.path
