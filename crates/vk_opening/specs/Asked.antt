-- Which paths opening a project asks for.
use Rattle.std.specs.Prelude.{◌++◌, ℕ, Bool, List, ◌∷◌, map, Option, Some, None}
use Rattle.std.specs.Result.{is_err}
use Rattle.vk_spec.specs.Paths.{Path}
use Rattle.vk_spec.specs.Files.{Files}
use Rattle.vk_config.specs.Configs.{Config}
use Rattle.vk_files.specs.Readings.{is_at}
use Rattle.vk_files.specs.Within.{paths_after, up_to_first}
use Rattle.vk_model.specs.declared.projects.Project.{Project}
use Rattle.vk_model.specs.declared.projects.Store.{Store}
use Rattle.vk_opening.specs.Projects.{manifest_path, config_path, triplet_path, folders_of}
use Rattle.vk_opening.specs.Roots.{Root, root_in, early_at}
use Rattle.vk_opening.specs.Configurations.{config_in}
use Rattle.vk_opening.specs.TripletFiles.{triplet_at}
use Rattle.vk_opening.specs.Overlays.{overlay_at}
use Rattle.vk_opening.specs.Openings.{triplets_of, opened_of}
use Rattle.vk_opening.specs.Stores.{apart, store_folders}

-- for a triplet: its file in each folder, up to the first that is there
abbrev pub tried_paths : List ℕ → List Path → Files → List Path
tried_paths name folders files = up_to_first (is_at files) (map (triplet_path name) folders)

-- for two triplets: those of the first, and then those of the second, where the first reads
abbrev pub both_paths : List ℕ → List ℕ → List Path → Files → List Path
both_paths target host folders files = tried_paths target folders files ++ paths_after (triplet_at target folders files) (λ first. tried_paths host folders files)

-- a folder of overlays has a fault
abbrev pub is_faulty : Files → Path → Bool
is_faulty files folder = is_err (overlay_at folder files)

-- for overlays: the manifest in each folder, up to the first that has a fault
abbrev pub overlay_paths : List Path → Files → List Path
overlay_paths folders files = map manifest_path (up_to_first (is_faulty files) folders)

-- the same in the folders of the words and then in those of the configuration
abbrev pub triplets_asked : Project → Config → Files → List Path
triplets_asked project config files = both_paths project.target project.host (folders_of project.folder project.overlay_triplets config.overlay_triplets) files

abbrev pub overlays_asked : Project → Config → Files → List Path
overlays_asked project config files = overlay_paths (folders_of project.folder project.overlay_ports config.overlay_ports) files

-- after the configuration: those of the triplets, and then those of the overlays, where the triplets read
abbrev pub found_paths : Project → Config → Files → List Path
found_paths project config files = triplets_asked project config files ++ paths_after (triplets_of project config files) (λ triplets. overlays_asked project config files)

-- after the root manifest: the configuration file, and then those, where the configuration reads
abbrev pub rest_paths : Project → Root → Files → List Path
rest_paths project root files = config_path project.folder ∷ paths_after (config_in project.folder root.configuration files) (λ config. found_paths project config files)

-- for a store: where it has to have folders, up to the first at which a file stands, where its folders are apart
abbrev pub stored_paths : Project → Store → Config → Files → List Path
stored_paths project store config files = paths_after (apart project store config) (λ done. up_to_first (is_at files) (store_folders store))

-- all: the root manifest, and then those, where the root manifest reads
abbrev pub opening_paths : Project → Files → List Path
opening_paths project files = manifest_path project.folder ∷ paths_after (early_at root_in (manifest_path project.folder) files) (λ root. rest_paths project root files)

-- and then those of a store, if there is one, where all of these read
abbrev pub paths_with : Project → Option Store → Files → List Path
paths_with project None files = opening_paths project files
paths_with project (Some store) files =
    opening_paths project files ++ paths_after (opened_of project files) (λ opening. stored_paths project store opening.layout.config files)
