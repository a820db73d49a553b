-- The homes of ports that were found, and the baselines that were read for them.
use Rattle.std.specs.Prelude.{◌≡◌, ℕ, List, map, Option, Result, bytes_eq}
use Rattle.std.specs.Map.{lookup}
use Rattle.std.specs.declared.boxed.Box.{Box}
use Rattle.vk_spec.specs.Files.{Files}
use Rattle.vk_spec.specs.Pages as plain
use Rattle.vk_catalogue.specs.Views.{or_wrong}
use Rattle.vk_model.specs.declared.wrongs.Wrong.{Wrong}
use Rattle.vk_files.specs.Notes.{AreRight}
use Rattle.vk_opening.specs.Layouts.{Layout}
use Rattle.vk_pages.specs.Homes as the
use Rattle.vk_pages.specs.Homes.{home_of}
use Rattle.vk_pages.specs.HomeViews.{home_view}
use Rattle.vk_pages.specs.BaselineNotes.{AreBaselines}
use Rattle.vk_pages.specs.NoteViews.{notes_of}
use Rattle.vk_pages.specs.declared.homes.Home.{Home}
use Rattle.vk_world.specs.declared.homes.Homes.{Homes}

-- where a port's versions are, or what is wrong
abbrev pub FoundHome : Type 0
FoundHome = Result the.Home plain.Wrong

abbrev pub found_home : Result Home Wrong → FoundHome
found_home = or_wrong home_view

abbrev pub boxed_home : {Z : Type 0} → Box (Result Home Wrong) Z → FoundHome
boxed_home home = found_home home.value

-- the ports, each with what was found, in the order in which they were asked for
abbrev pub homes_in : Homes → List (List ℕ × FoundHome)
homes_in homes = map (λ e. (e.0, boxed_home e.1)) homes.found.entries

-- what was found for a port
abbrev pub home_noted : List ℕ → Homes → Option FoundHome
home_noted port homes = lookup (bytes_eq port) (homes_in homes)

abbrev pub IsHomeOf : Layout → Files → List ℕ → FoundHome → Type 0
IsHomeOf layout files port found = found ≡ home_of layout port files

-- the baselines are those of the files, and so are the homes
pub record AreHomes (layout : Layout) (homes : Homes) (files : Files) : Type 0 where
  pub baselines : AreBaselines (notes_of homes.baselines) files
  pub found : AreRight (IsHomeOf layout files) (homes_in homes)
