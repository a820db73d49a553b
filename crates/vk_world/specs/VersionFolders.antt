-- Where a version of a port stands.
use Rattle.std.specs.Prelude.{ℕ, List, Option, Some, None, option_map, Ok, Err, if◌then◌else◌}
use Rattle.std.specs.List.{find}
use Rattle.vk_spec.specs.Paths.{Path}
use Rattle.vk_spec.specs.Files.{Files}
use Rattle.vk_spec.specs.Versions.{Version, same_version}
use Rattle.vk_registry.specs.Tables.{Row}
use Rattle.vk_opening.specs.Layouts.{Layout}
use Rattle.vk_pages.specs.Homes.{Home, in_overlay, in_registry, home_of}
use Rattle.vk_pages.specs.Pages.{row_folder}
use Rattle.vk_world.specs.HomeNotes.{FoundHome}

-- where a registry's table says that a version stands
abbrev pub table_folder : Path → List Row → Version → Option Path
table_folder registry rows v = option_map (row_folder registry) (find (λ r. same_version v r.version) rows)

-- an overlay's own version stands in its folder, and one of a registry where its table says
abbrev pub version_folder : Home → Version → Option Path
version_folder (in_overlay folder w m) v = if same_version v w then Some folder else None
version_folder (in_registry given registry rows) v = table_folder registry rows v

-- the same for what was found of a port
abbrev pub folder_found : FoundHome → Version → Option Path
folder_found (Ok home) v = version_folder home v
folder_found (Err wrong) v = None

-- where a version of a port stands in files
abbrev pub place_in : Layout → Files → List ℕ → Version → Option Path
place_in layout files port v = folder_found (home_of layout port files) v
