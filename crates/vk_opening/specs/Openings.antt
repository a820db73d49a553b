-- What the early files of a project give: a setting and a layout, or the first early line.
use Rattle.std.specs.Prelude.{List, map, Option, Some, None, Result, Ok}
use Rattle.vk_spec.specs.Reading.{◌>>=◌}
use Rattle.vk_spec.specs.Files.{Files}
use Rattle.vk_base.specs.FeatureViews.{feature_view}
use Rattle.vk_spec.specs.Manifests.{Manifest}
use Rattle.vk_spec.specs.Settings.{Setting, Instance}
use Rattle.vk_spec.specs.Conditions.{Condition}
use Rattle.vk_triplet.specs.Meanings.{meaning_of}
use Rattle.vk_config.specs.Configs.{Config}
use Rattle.vk_model.specs.declared.projects.Project.{Project}
use Rattle.vk_model.specs.declared.projects.Store.{Store}
use Rattle.vk_spec.specs.Earlies.{Early}
use Rattle.vk_opening.specs.Layouts.{Overlay, Layout}
use Rattle.vk_opening.specs.Projects.{manifest_path, folders_of}
use Rattle.vk_opening.specs.Roots.{Root, root_in, early_at}
use Rattle.vk_opening.specs.Configurations.{config_in}
use Rattle.vk_opening.specs.TripletFiles.{Triplets, triplets_at}
use Rattle.vk_opening.specs.Overlays.{overlays_at}
use Rattle.vk_opening.specs.Stores.{stored_at}

-- a setting, by the instances that are off in it, and what is known besides before any port is looked at
pub record Opening : Type 0 where
  pub setting : List Instance → Setting
  pub layout : Layout

-- the triplets, in the folders that the words name and then in those of the configuration
abbrev pub triplets_of : Project → Config → Files → Result Triplets Early
triplets_of project config files = triplets_at project.target project.host (folders_of project.folder project.overlay_triplets config.overlay_triplets) files

-- the overlays that the words name, and then those of the configuration
abbrev pub overlays_of : Project → Config → Files → Result (List Overlay) Early
overlays_of project config files = overlays_at (folders_of project.folder project.overlay_ports config.overlay_ports) files

abbrev pub setting_with : Project → Manifest Condition → Triplets → List Instance → Setting
setting_with project root triplets off = record { root = root; target = meaning_of triplets.target; host = meaning_of triplets.host; features = map feature_view project.features; defaults = project.defaults; off = off; max_facts = project.max_facts }

abbrev pub layout_with : Project → Manifest Condition → Config → List Overlay → Layout
layout_with project root config overlays = record { folder = project.folder; config = config; overlays = overlays; overrides = root.overrides }

abbrev pub opening_with : Project → Manifest Condition → Config → Triplets → List Overlay → Opening
opening_with project root config triplets overlays = record { setting = setting_with project root triplets; layout = layout_with project root config overlays }

unfoldable pub opened_of : Project → Files → Result Opening Early
opened_of project files = do
  root ← early_at root_in (manifest_path project.folder) files
  config ← config_in project.folder root.configuration files
  triplets ← triplets_of project config files
  overlays ← overlays_of project config files
  Ok (opening_with project root.manifest config triplets overlays)

-- the same, where packages are to be kept somewhere only if they can be
abbrev pub stored : Project → Store → Opening → Files → Result Opening Early
stored project store opening files = stored_at project store opening.layout.config files >>= λ done. Ok opening

abbrev pub opened_with : Project → Option Store → Files → Result Opening Early
opened_with project None files = opened_of project files
opened_with project (Some store) files = opened_of project files >>= λ opening. stored project store opening files

-- what is read after each step
abbrev pub after_overlays : Project → Manifest Condition → Config → Triplets → List Overlay → Files → Result Opening Early
after_overlays project root config triplets overlays files = Ok (opening_with project root config triplets overlays)

abbrev pub after_triplets : Project → Manifest Condition → Config → Triplets → Files → Result Opening Early
after_triplets project root config triplets files =
    overlays_of project config files >>= λ overlays. after_overlays project root config triplets overlays files

abbrev pub after_config : Project → Manifest Condition → Config → Files → Result Opening Early
after_config project root config files =
    triplets_of project config files >>= λ triplets. after_triplets project root config triplets files

abbrev pub after_root : Project → Root → Files → Result Opening Early
after_root project root files =
    config_in project.folder root.configuration files >>= λ config. after_config project root.manifest config files
