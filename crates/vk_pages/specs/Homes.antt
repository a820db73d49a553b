-- Where a port's versions are: the first overlay that has it, or the registry that serves it.
use Rattle.std.specs.Prelude.{◌==◌, ◌⊎◌, ℕ, Bool, false, List, length, slice_get, Option, Some, None, option_map, IsSome, Result, Ok, Err, bytes_eq, if◌then◌else◌}
use Rattle.std.specs.List.{find}
use Rattle.vk_spec.specs.Paths.{Path}
use Rattle.vk_spec.specs.Files.{Files}
use Rattle.vk_spec.specs.Reading.{◌>>=◌, or_fault}
use Rattle.vk_spec.specs.Versions.{Version, Ask}
use Rattle.vk_spec.specs.Manifests.{Manifest}
use Rattle.vk_spec.specs.Pages.{Wrong, no_registry, no_baseline, Given, override, baseline}
use Rattle.vk_base.specs.Paths.{joined}
use Rattle.vk_spec.specs.Conditions.{Condition}
use Rattle.vk_config.specs.Configs.{Source, filesystem, git, builtin, artifact, Config}
use Rattle.vk_config.specs.Closeness.{place_of}
use Rattle.vk_registry.specs.Baselines.{Entry, ask_for, baseline_by}
use Rattle.vk_registry.specs.Tables.{Row, table_of}
use Rattle.vk_files.specs.Readings.{Bad, wrong_of, or_told, is_at, file_at, file_as}
use Rattle.vk_opening.specs.Projects.{manifest_path}
use Rattle.vk_root.specs.Overrides.{override_for}
use Rattle.vk_opening.specs.Roots.{port_in}
use Rattle.vk_opening.specs.Layouts.{Overlay, is_port, has_ports, Layout}
use Rattle.vk_registry.specs.RegistryFiles.{baseline_path, table_path, port_folder}
use Rattle.vk_registry.specs.Agreement.{named, stated_version}

-- an overlay has the port, in this folder, at its one version; or a registry does: what is given, the registry's folder, and its table
pub data Home : Type 0 where
  in_overlay : Path → Version → Manifest Condition → Home
  in_registry : Given → Path → List Row → Home

-- a port's manifest
abbrev pub manifest_file : Path → Files → Result (Manifest Condition) Wrong
manifest_file path files = file_as wrong_of port_in path files

-- ---- overlays

abbrev pub is_named : List ℕ → Option (List ℕ) → Bool
is_named port None = false
is_named port (Some name) = bytes_eq port name

-- whether an overlay has the port
abbrev pub has_port : List ℕ → Files → Overlay → Bool
has_port port files (is_port folder m) = is_named port m.name
has_port port files (has_ports folder) = is_at files (manifest_path (port_folder folder port))

-- the first overlay that has the port, if one does
abbrev pub overlay_for : List Overlay → List ℕ → Files → Option Overlay
overlay_for overlays port files = find (has_port port files) overlays

-- the overlay's port, with the version of its manifest
unfoldable pub overlay_home : Path → Manifest Condition → Result Home Wrong
overlay_home folder m = stated_version (manifest_path folder) m >>= λ v. Ok (in_overlay folder v m)

-- a manifest at a path, which has to have the port's name
abbrev pub if_named : Path → List ℕ → Manifest Condition → Result (Manifest Condition) Wrong
if_named path port m = named path port m >>= λ same. Ok m

-- the manifest in a folder, which has to have the port's name
abbrev pub named_manifest : List ℕ → Path → Files → Result (Manifest Condition) Wrong
named_manifest port folder files = manifest_file (manifest_path folder) files >>= if_named (manifest_path folder) port

-- the port in its folder of an overlay
abbrev pub folder_home : List ℕ → Path → Files → Result Home Wrong
folder_home port folder files = named_manifest port folder files >>= overlay_home folder

abbrev pub home_in : Overlay → List ℕ → Files → Result Home Wrong
home_in (is_port folder m) port files = overlay_home folder m
home_in (has_ports folder) port files = folder_home port (port_folder folder port) files

-- ---- registries

-- a registry in a folder, and the name of the baseline that counts
pub record Served : Type 0 where
  pub folder : Path
  pub baseline : List ℕ

-- where a registry of files is; no other serves a port yet
abbrev pub served_by : Path → Option Source → Result Served Wrong
served_by project (Some (filesystem path name)) = Ok (record { folder = joined project path; baseline = name })
served_by project (Some git) = Err no_registry
served_by project (Some builtin) = Err no_registry
served_by project (Some artifact) = Err no_registry
served_by project None = Err no_registry

-- the source at a place: their number is the default registry's
abbrev pub source_at : Config → ℕ → Option Source
source_at config place = if place == length config.registries then config.default else option_map (λ r. r.source) (slice_get config.registries place)

abbrev pub source_in : Config → Option ℕ → Option Source
source_in config None = None
source_in config (Some place) = source_at config place

-- the registry that serves the port
abbrev pub served_for : Layout → List ℕ → Result Served Wrong
served_for layout port = served_by layout.folder (source_in layout.config (place_of layout.config port))

-- the registry's baseline
abbrev pub baseline_file : Served → Files → Result (List Entry) Bad
baseline_file served files = file_at (baseline_by served.baseline) (baseline_path served.folder) files

-- what a baseline has for a port
abbrev pub baseline_given : List ℕ → Result (List Entry) Bad → Result Given Wrong
baseline_given port read = or_told wrong_of read >>= λ entries. or_fault no_baseline (option_map baseline (ask_for port entries))

-- what the registry's baseline has for the port
abbrev pub baseline_for : Served → List ℕ → Files → Result Given Wrong
baseline_for served port files = baseline_given port (baseline_file served files)

-- an override counts before the baseline, which isn't looked at then
abbrev pub given_by : Option Ask → Served → List ℕ → Files → Result Given Wrong
given_by (Some ask) served port files = Ok (override ask)
given_by None served port files = baseline_for served port files

-- the port's table in a registry
abbrev pub table_in : Served → List ℕ → Files → Result (List Row) Wrong
table_in served port files = file_as wrong_of table_of (table_path port served.folder) files

-- the home in a registry, where this is given
abbrev pub home_with : Given → Served → List ℕ → Files → Result Home Wrong
home_with given served port files = table_in served port files >>= λ rows. Ok (in_registry given served.folder rows)

-- what is given, and then the table
unfoldable pub served_home : Option Ask → Served → List ℕ → Files → Result Home Wrong
served_home set served port files = given_by set served port files >>= λ given. home_with given served port files

unfoldable pub registry_home : Layout → List ℕ → Files → Result Home Wrong
registry_home layout port files = served_for layout port >>= λ served. served_home (override_for layout.overrides port) served port files

-- ---- both

-- the home in the first overlay that has the port, if one does
abbrev pub home_by : Option Overlay → Layout → List ℕ → Files → Result Home Wrong
home_by (Some overlay) layout port files = home_in overlay port files
home_by None layout port files = registry_home layout port files

-- where the port's versions are, or the first thing that is wrong
abbrev pub home_of : Layout → List ℕ → Files → Result Home Wrong
home_of layout port files = home_by (overlay_for layout.overlays port files) layout port files

-- a port is pinned where an overlay has it, or the root manifest has an override for it
abbrev pub IsPinned : Layout → List ℕ → Files → Type 0
IsPinned layout port files = IsSome (overlay_for layout.overlays port files) ⊎ IsSome (override_for layout.overrides port)
