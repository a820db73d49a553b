-- Which paths are asked for to answer what concerns a port.
use Rattle.std.specs.Prelude.{◌++◌, ℕ, List, [], ◌∷◌, map, Option, Some, None, Result, Ok, Err}
use Rattle.std.specs.List.{flat_map}
use Rattle.vk_spec.specs.Paths.{Path}
use Rattle.vk_spec.specs.Files.{Files}
use Rattle.vk_spec.specs.Pages.{Wrong}
use Rattle.vk_spec.specs.Versions.{Ask}
use Rattle.vk_files.specs.Within.{paths_after, up_to_first}
use Rattle.vk_registry.specs.Tables.{Row}
use Rattle.vk_opening.specs.Projects.{manifest_path}
use Rattle.vk_opening.specs.Layouts.{Overlay, is_port, has_ports, Layout}
use Rattle.vk_registry.specs.RegistryFiles.{baseline_path, table_path, port_folder}
use Rattle.vk_pages.specs.Homes.{Home, in_overlay, in_registry, Served, has_port, overlay_for, served_for, given_by, home_of}
use Rattle.vk_root.specs.Overrides.{override_for}
use Rattle.vk_pages.specs.Pages.{row_folder}

-- in a folder of ports, the port's manifest; that of an overlay which is a port was read before
abbrev pub overlay_path : List ℕ → Overlay → List Path
overlay_path port (is_port folder m) = []
overlay_path port (has_ports folder) = manifest_path (port_folder folder port) ∷ []

-- the port's manifest in each overlay, up to the first that has the port
abbrev pub overlay_paths : List Overlay → Files → List ℕ → List Path
overlay_paths overlays files port = flat_map (overlay_path port) (up_to_first (has_port port files) overlays)

-- the baseline file, where nothing is set for the port
abbrev pub given_paths : Option Ask → Served → List Path
given_paths (Some ask) served = []
given_paths None served = baseline_path served.folder ∷ []

-- the same, and then the port's versions file, where something is given
abbrev pub served_paths : Option Ask → Served → Files → List ℕ → List Path
served_paths set served files port = given_paths set served ++ paths_after (given_by set served port files) (λ given. table_path port served.folder ∷ [])

-- those of the registry that serves the port, if one does
abbrev pub registry_paths : Layout → Files → List ℕ → List Path
registry_paths layout files port = paths_after (served_for layout port) (λ served. served_paths (override_for layout.overrides port) served files port)

-- a registry is asked where no overlay has the port
abbrev pub elsewhere : Option Overlay → List Path → List Path
elsewhere (Some overlay) paths = []
elsewhere None paths = paths

-- what is asked for to find where a port's versions are
abbrev pub home_paths : Layout → Files → List ℕ → List Path
home_paths layout files port = overlay_paths layout.overlays files port ++ elsewhere (overlay_for layout.overlays port files) (registry_paths layout files port)

-- the manifest of a row of a registry's table
abbrev pub row_path : Path → Row → Path
row_path registry row = manifest_path (row_folder registry row)

-- the manifests of all rows of the table
abbrev pub manifest_paths : Result Home Wrong → List Path
manifest_paths (Err wrong) = []
manifest_paths (Ok (in_overlay folder v m)) = []
manifest_paths (Ok (in_registry given registry rows)) = map (row_path registry) rows

-- all that is asked for to answer what concerns a port
abbrev pub page_paths : Layout → Files → List ℕ → List Path
page_paths layout files port = home_paths layout files port ++ manifest_paths (home_of layout port files)
