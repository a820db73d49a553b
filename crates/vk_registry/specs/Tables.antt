-- A versions file: the versions of a port that a registry has, each with the port's folder.
use Rattle.std.specs.Prelude.{◌≡◌, ℕ, List, Some, Result, Ok, Err, codes, map, slice_get}
use Rattle.std.specs.Prelude.{if◌then◌else◌}
use Rattle.std.specs.List.{All, Contains, list_any}
use Rattle.vk_spec.specs.Lists.{NoRepeats}
use Rattle.vk_spec.specs.Paths.{Path}
use Rattle.vk_spec.specs.Reading.{◌>>=◌}
use Rattle.vk_spec.specs.Versions.{Version, Ask, ask_of, same_ask}
use Rattle.vk_json.specs.declared.faults.Why.TheVariants as why
use Rattle.vk_json.specs.Documents.{json_of}
use Rattle.vk_json.specs.declared.faults.FileFault.{FileFault}
use Rattle.vk_json.specs.NewItems.{each_new_item}
use Rattle.vk_json.specs.Places.{here}
use Rattle.vk_json.specs.Readings.{Reading, object_at, wanted}
use Rattle.vk_fields.specs.Versions.{version_needed_at}
use Rattle.vk_registry.specs.Folders.{IsBelow, folder_at}

-- a version, and the folder of its port below the registry
pub record Row : Type 0 where
  pub version : Version
  pub path : Path

-- the ask that means a row: that of its version
abbrev pub ask_in : Row → Ask
ask_in row = ask_of row.version

-- a row, whose version has to be there
unfoldable pub row_at : Reading Row
row_at d = do
  object ← object_at d
  version ← version_needed_at d
  path ← wanted folder_at (codes "path") d
  Ok (record { version = version; path = path })

-- an ask that is none of these
abbrev pub new_ask : List Ask → Ask → Result (Unit {0}) FileFault
new_ask asks ask = if list_any (same_ask ask) asks then Err (here why.Twice) else Ok tt

-- a row whose ask is none of these
unfoldable pub row_from : List Ask → Reading Row
row_from asks d = do
  row ← row_at d
  new ← new_ask asks (ask_in row)
  Ok row

abbrev pub asks_of : List Row → List Ask
asks_of rows = map ask_in rows

-- rows, each with an ask of its own
abbrev pub rows_at : Reading (List Row)
rows_at = each_new_item ask_in row_from

unfoldable pub table_at : Reading (List Row)
table_at d = object_at d >>= λ object. wanted rows_at (codes "versions") d

-- the rows of a versions file, by its bytes
abbrev pub table_of : List ℕ → Result (List Row) FileFault
table_of bytes = json_of bytes >>= table_at

-- what every table keeps
pub record IsTable (rows : List Row) : Type 0 where
  -- no two rows have the same text and port-version
  pub distinct : NoRepeats (asks_of rows)
  -- each folder is below the registry
  pub below : All (λ row. IsBelow row.path) rows

-- the row at this place has the text and the port-version of the ask
pub record IsRowAt (rows : List Row) (ask : Ask) (place : ℕ) : Type 0 where
  pub row : Row
  pub stands : slice_get rows place ≡ Some row
  pub asked : ask_in row ≡ ask

-- no row has them
abbrev pub HasNoRow : List Row → Ask → Type 0
HasNoRow rows ask = Contains (asks_of rows) ask → ⊥
