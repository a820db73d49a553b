-- What a world keeps, when it is right, and what a call about a port answers.
use Rattle.std.specs.Prelude.{◌≡◌, ℕ, List, Result, Option, Some, IsSome}
use Rattle.vk_spec.specs.Paths.{Path}
use Rattle.vk_spec.specs.Files.{Files}
use Rattle.vk_spec.specs.Versions.{Version, Ask}
use Rattle.vk_spec.specs.Pages.{version_in, manifest_in}
use Rattle.vk_catalogue.specs.Views.{given_said, manifest_said}
use Rattle.vk_model.specs.declared.wrongs.Wrong.{Wrong}
use Rattle.vk_model.specs.declared.wrongs.Given.{Given}
use Rattle.vk_model.specs.declared.manifests.Manifest.{Manifest}
use Rattle.std.specs.declared.rc.Rc.{Rc}
use Rattle.vk_base.specs.declared.stops.Outage.{Outage}
use Rattle.vk_files.specs.Kept.{Held}
use Rattle.vk_opening.specs.Layouts.{Layout}
use Rattle.vk_pages.specs.Asked.{page_paths}
use Rattle.vk_pages.specs.Homes.{home_of}
use Rattle.vk_opening.specs.Views.{layout_view}
use Rattle.vk_pages.specs.Pages.{page_at}
use Rattle.vk_world.specs.HomeNotes.{FoundHome, AreHomes}
use Rattle.vk_world.specs.Learning.{Learns}
use Rattle.vk_world.specs.ManifestNotes.{AreManifests}
use Rattle.vk_world.specs.VersionFolders.{folder_found}
use Rattle.vk_world.specs.declared.libraries.Library.{Library}

-- what is known of the project
abbrev pub layout_of : Library → Layout
layout_of lib = layout_view lib.layout

-- all that is kept is right of files
pub record IsRight (lib : Library) (files : Files) : Type 0 where
  pub homes : AreHomes (layout_of lib) lib.homes files
  pub manifests : AreManifests (layout_of lib) lib.manifests files

-- the layout and the count of paths that opening had looked at stay
pub record Stays (before after : Library) : Type 0 where
  pub layout : after.layout ≡ before.layout
  pub opened : after.opened ≡ before.opened

-- a call about a port answered what is said of files and of what is found for the port there, only the paths of the port's page were looked at, and what opening gave stays
pub record Serves {X : Type 0} (answer : Result X Outage) (Says : Files → FoundHome → X → Type 0) (port : List ℕ) (before after : Library) (a b : Held) : Type 0 where
  pub learns : Learns answer (λ f. Says f (home_of (layout_of before) port f)) (λ f. page_paths (layout_of before) f port) (IsRight before) (IsRight after) a b
  pub stays : Stays before after

-- ---- what answers say of a port's page, and of where its versions stand

abbrev pub SaysGivenAt : List ℕ → Files → FoundHome → Result Given Wrong → Type 0
SaysGivenAt port files found given = given_said given ≡ (page_at port files found).given

abbrev pub SaysVersionAt : List ℕ → Ask → Files → FoundHome → Option Version → Type 0
SaysVersionAt port ask files found version = version ≡ version_in (page_at port files found) ask

abbrev pub SaysFolderAt : Version → Files → FoundHome → Option Path → Type 0
SaysFolderAt version files found folder = folder ≡ folder_found found version

-- where a version is there for the ask
abbrev pub SaysManifestAt : {Z : Type 0} → List ℕ → Ask → Files → FoundHome → Result (Rc Manifest Z) Wrong → Type 0
SaysManifestAt port ask files found m = IsSome (version_in (page_at port files found) ask) → Some (manifest_said m) ≡ manifest_in (page_at port files found) ask
