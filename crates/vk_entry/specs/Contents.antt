-- A contents list: between a first line and a last one, a line for each file of a package.
use Rattle.std.specs.Prelude.{◌++◌, ◌∷◌, ℕ, List, length, map, flat_map, codes, decimal}
use Rattle.hex.specs.Hex.{encode_lower}
use Rattle.sha2.specs.Sha256.{sha256}
use Rattle.vk_spec.specs.Paths.{Path}
use Rattle.vk_base.specs.Printed.{path_text}
use Rattle.vk_resolution.specs.Lines.{ended}
use Rattle.vk_entry.specs.Packages.{File}

-- what a line says of a file: its path, how many bytes it has, and their SHA-256
pub record Content : Type 0 where
  pub path : Path
  pub size : ℕ
  pub digest : List ℕ

abbrev pub content_of : File → Content
content_of file = record { path = file.path; size = length file.bytes; digest = sha256 file.bytes }

-- a file's line: blanks stand between its word, the path, the size and the digest in hexadecimal
abbrev pub content_text : Content → List ℕ
content_text c =
    codes "file" ++ 32 ∷ (path_text c.path ++ 32 ∷ (decimal c.size ++ 32 ∷ encode_lower c.digest))

-- the first line, and those of the files
abbrev pub opening : List Content → List (List ℕ)
opening cs = codes "contents 1" ∷ map content_text cs

-- the whole list
abbrev pub contents_text : List Content → List ℕ
contents_text cs = flat_map ended (opening cs) ++ ended (codes "end")
