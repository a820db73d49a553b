-- The page of a port, by the files of a project.
use Rattle.std.specs.Prelude.{ℕ, List, [], ◌∷◌, map, Result, Ok, Err}
use Rattle.vk_spec.specs.Paths.{Path}
use Rattle.vk_spec.specs.Files.{Files}
use Rattle.vk_spec.specs.Reading.{◌>>=◌}
use Rattle.vk_spec.specs.Manifests.{Manifest}
use Rattle.vk_spec.specs.Pages as plain
use Rattle.vk_base.specs.Paths.{joined}
use Rattle.vk_spec.specs.Conditions.{Condition}
use Rattle.vk_registry.specs.Tables.{Row}
use Rattle.vk_opening.specs.Projects.{manifest_path}
use Rattle.vk_opening.specs.Layouts.{Layout}
use Rattle.vk_registry.specs.Agreement.{agreeing}
use Rattle.vk_pages.specs.Homes.{manifest_file, Home, in_overlay, in_registry, home_of}

-- the folder of a row of a registry's table
abbrev pub row_folder : Path → Row → Path
row_folder registry row = joined registry row.path

-- the manifest of a row, which has to say what the table says
unfoldable pub row_manifest : List ℕ → Path → Row → Files → Result (Manifest Condition) plain.Wrong
row_manifest port registry row files = do
  m ← manifest_file (manifest_path (row_folder registry row)) files
  same ← agreeing (manifest_path (row_folder registry row)) port row.version m
  Ok m

abbrev pub page_row : List ℕ → Path → Files → Row → plain.Row Condition
page_row port registry files row = record { version = row.version; manifest = row_manifest port registry row files }

-- an overlay has its own version alone; a registry has those of the table
abbrev pub page_at : List ℕ → Files → Result Home plain.Wrong → plain.Page Condition
page_at port files (Err wrong) = record { given = Err wrong; rows = [] }
page_at port files (Ok (in_overlay folder v m)) = record { given = Ok (plain.overlay v); rows = record { version = v; manifest = Ok m } ∷ [] }
page_at port files (Ok (in_registry given registry rows)) = record { given = Ok given; rows = map (page_row port registry files) rows }

-- the page of a port
abbrev pub page_of : Layout → Files → List ℕ → plain.Page Condition
page_of layout files port = page_at port files (home_of layout port files)
