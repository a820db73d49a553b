-- What the laws of opening a project speak of.
use Rattle.std.specs.Prelude.{◌≡◌, ◌++◌, ℕ, false, List, [], ◌∷◌, map}
use Rattle.std.specs.List.{All}
use Rattle.std.specs.FinMap as files_map
use Rattle.vk_spec.specs.Paths.{Path, IsApart}
use Rattle.vk_spec.specs.Files.{Files}
use Rattle.vk_config.specs.Configs.{Config}
use Rattle.vk_model.specs.declared.projects.Project.{Project}
use Rattle.vk_model.specs.declared.projects.Store.{Store}
use Rattle.vk_opening.specs.Projects.{manifest_path, config_path, triplet_path, folders_of}
use Rattle.vk_base.specs.Paths.{is_far_up}
use Rattle.vk_files.specs.Readings.{is_at}
use Rattle.vk_opening.specs.Stores.{outer_folders, store_folders}

-- a folder hasn't the triplet; none of these has it
abbrev pub LacksTriplet : List ℕ → Files → Path → Type 0
LacksTriplet name files folder = is_at files (triplet_path name folder) ≡ false

abbrev pub NoneHas : List ℕ → List Path → Files → Type 0
NoneHas name folders files = All (LacksTriplet name files) folders

-- the paths at which the early files of a project with this configuration may stand
abbrev pub triplet_paths : Project → Config → List Path
triplet_paths project config =
    map (triplet_path project.target) (folders_of project.folder project.overlay_triplets config.overlay_triplets)
    ++ map (triplet_path project.host) (folders_of project.folder project.overlay_triplets config.overlay_triplets)

abbrev pub early_paths : Project → Config → List Path
early_paths project config =
    manifest_path project.folder ∷ config_path project.folder ∷ (triplet_paths project config
    ++ map manifest_path (folders_of project.folder project.overlay_ports config.overlay_ports))

-- the same stands at each of these paths
abbrev pub AgreeAt : List Path → Files → Files → Type 0
AgreeAt [] one other = Unit {0}
AgreeAt (path ∷ paths) one other = (files_map.get other path ≡ files_map.get one path) × AgreeAt paths one other

-- a folder hasn't a path in it: it doesn't begin it, nor is it so far up
abbrev pub IsOutside : Path → Path → Type 0
IsOutside folder path = IsApart folder path × (is_far_up folder path ≡ false)

-- neither of two folders has the other in it
abbrev pub AreApart : Path → Path → Type 0
AreApart one other = IsOutside one other × IsOutside other one

abbrev pub IsFree : Files → Path → Type 0
IsFree files path = is_at files path ≡ false

-- a store's folders are apart from each other and from all that a project names, they have no project in them, and no file is in their way
pub record IsStored (project : Project) (store : Store) (config : Config) (files : Files) : Type 0 where
  pub both : AreApart store.installed store.cache
  pub installed : All (AreApart store.installed) (outer_folders project config)
  pub cache : All (AreApart store.cache) (outer_folders project config)
  pub around : IsOutside store.installed project.folder × IsOutside store.cache project.folder
  pub free : All (IsFree files) (store_folders store)
