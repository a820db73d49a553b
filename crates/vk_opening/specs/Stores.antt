-- Where packages are installed and kept: what these two folders have to be apart from, and where no file may stand.
use Rattle.std.specs.Prelude.{◌++◌, ◌+◌, Bool, List, [], ◌∷◌, length, take, map, flat_map, Option, Some, None, option_to_list, Result, Ok, Err, codes, if◌then◌else◌}
use Rattle.std.specs.List.{find, range_with_len}
use Rattle.vk_spec.specs.Paths.{Path}
use Rattle.vk_spec.specs.Files.{Files}
use Rattle.vk_spec.specs.Reading.{◌>>=◌}
use Rattle.vk_spec.specs.Earlies.{Early, overlap, blocked}
use Rattle.vk_base.specs.Paths.{parts_of, joined, has_in_it, overlaps}
use Rattle.vk_config.specs.Configs.{Config, Source, filesystem, git, builtin, artifact}
use Rattle.vk_files.specs.Readings.{is_at}
use Rattle.vk_model.specs.declared.projects.Project.{Project}
use Rattle.vk_model.specs.declared.projects.Store.{Store}
use Rattle.vk_opening.specs.Projects.{folders_of}

-- ---- apart

-- the folder of a registry of files, from the project's folder on; no other has one
abbrev pub source_folder : Path → Source → List Path
source_folder project (filesystem path name) = joined project path ∷ []
source_folder project git = []
source_folder project builtin = []
source_folder project artifact = []

-- where else a project has files: in its registries, the listed ones first, in its folders of ports, and in those of triplets
abbrev pub outer_folders : Project → Config → List Path
outer_folders project config =
    flat_map (λ r. source_folder project.folder r.source) config.registries
    ++ flat_map (source_folder project.folder) (option_to_list config.default)
    ++ folders_of project.folder project.overlay_ports config.overlay_ports
    ++ folders_of project.folder project.overlay_triplets config.overlay_triplets

-- two folders are told where something is wrong with them
abbrev pub refused_if : Bool → Path → Path → Result (Unit {0}) Early
refused_if wrong one other = if wrong then Err (overlap one other) else Ok tt

-- a folder is told with another, if there is one
abbrev pub refused_beside : Path → Option Path → Result (Unit {0}) Early
refused_beside folder None = Ok tt
refused_beside folder (Some other) = Err (overlap folder other)

-- a folder overlaps none of these, or is told with the first that it overlaps
abbrev pub apart_from : Path → List Path → Result (Unit {0}) Early
apart_from folder others = refused_beside folder (find (overlaps folder) others)

-- the two folders overlap neither each other nor any of these, and have no project in them
unfoldable pub apart_by : Path → Store → List Path → Result (Unit {0}) Early
apart_by project store folders = do
  both ← refused_if (overlaps store.installed store.cache) store.installed store.cache
  installed ← apart_from store.installed folders
  cache ← apart_from store.cache folders
  outside ← refused_if (has_in_it store.installed project) store.installed project
  refused_if (has_in_it store.cache project) store.cache project

abbrev pub apart : Project → Store → Config → Result (Unit {0}) Early
apart project store config = apart_by project.folder store (outer_folders project config)

-- ---- blocked

-- a path's prefixes, from the shortest on, and with itself
abbrev pub above : Path → List Path
above path = map (λ n. take (n + 1) path) (range_with_len 0 (length (parts_of path)))

abbrev pub prefixes : Path → List Path
prefixes path = above path ++ path ∷ []

-- where folders have to be: the two, those above them, and those of entries, of unfinished packages and of damaged ones
abbrev pub store_folders : Store → List Path
store_folders store =
    prefixes store.installed ++ prefixes store.cache
    ++ (store.cache ++ codes "abi2" ∷ []) ∷ (store.cache ++ codes "tmp" ∷ []) ∷ (store.cache ++ codes "damaged" ∷ []) ∷ []

abbrev pub unblocked : Option Path → Result (Unit {0}) Early
unblocked None = Ok tt
unblocked (Some path) = Err (blocked path)

-- packages can be installed and kept there: the folders are apart, and no file stands where one has to be
unfoldable pub stored_at : Project → Store → Config → Files → Result (Unit {0}) Early
stored_at project store config files = apart project store config >>= λ done. unblocked (find (is_at files) (store_folders store))
