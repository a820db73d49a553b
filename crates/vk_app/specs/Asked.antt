-- Which paths a run may ask for.
use Rattle.std.specs.Prelude.{◌≡◌, ◌⊎◌, ℕ, List, Some, Result, Ok, Err}
use Rattle.std.specs.List.{Contains}
use Rattle.vk_spec.specs.Paths.{Path, Begins}
use Rattle.vk_spec.specs.Files.{Files}
use Rattle.vk_spec.specs.Versions.{Version}
use Rattle.vk_spec.specs.Earlies.{Early}
use Rattle.vk_opening.specs.Asked.{opening_paths}
use Rattle.vk_opening.specs.Openings.{Opening, opened_of}
use Rattle.vk_opening.specs.Layouts.{Layout}
use Rattle.vk_pages.specs.Asked.{page_paths}
use Rattle.vk_world.specs.VersionFolders.{place_in}
use Rattle.vk_model.specs.declared.projects.Project.{Project}
use Rattle.vk_app.specs.declared.requests.Task.{Task}
use Rattle.vk_app.specs.declared.requests.Task.TheVariants as task
use Rattle.vk_app.specs.Requests.{Request}

-- what a path is asked for: for a plan, or for an ABI text
pub data Purpose : Type 0 where
  to_plan : Purpose
  to_tell : Purpose

-- what is asked for on some port's behalf: for a plan a path of its page, for an ABI text one at or below the folder where a version of it stands
abbrev pub IsOfPorts : Layout → Purpose → Files → Path → Type 0
IsOfPorts layout to_plan files path = (port : List ℕ) × Contains (page_paths layout files port) path
IsOfPorts layout to_tell files path = (port : List ℕ) × (v : Version) × (folder : Path) × (place_in layout files port v ≡ Some folder) × Begins folder path

-- the same, where the project opens
abbrev pub IsOfOpened : Result Opening Early → Purpose → Files → Path → Type 0
IsOfOpened (Ok opening) purpose files path = IsOfPorts opening.layout purpose files path
IsOfOpened (Err early) purpose files path = ⊥

-- for a plan, opening the project asks for it too
abbrev pub IsOfProject : Project → Purpose → Files → Path → Type 0
IsOfProject project to_plan files path = Contains (opening_paths project files) path ⊎ IsOfOpened (opened_of project files) to_plan files path
IsOfProject project to_tell files path = IsOfOpened (opened_of project files) to_tell files path

-- no path is asked for
abbrev pub AsksNothing : Purpose → Files → Path → Type 0
AsksNothing purpose files path = ⊥

-- a task asks for paths of its project; a load asks the tree for none
abbrev pub MayAskFor : Task → Purpose → Files → Path → Type 0
MayAskFor (task.Plan project) purpose files path = IsOfProject project purpose files path
MayAskFor (task.Abi project instance) purpose files path = IsOfProject project purpose files path
MayAskFor (task.Check project report) purpose files path = IsOfProject project purpose files path
MayAskFor (task.SelfLoad size project) purpose files path = AsksNothing purpose files path

-- a malformed command line asks for no path
abbrev pub MayAsk : Request → Purpose → Files → Path → Type 0
MayAsk (Ok task) purpose files path = MayAskFor task purpose files path
MayAsk (Err fault) purpose files path = AsksNothing purpose files path

-- a malformed command line, and a load, leave the tree as it was
abbrev pub LeavesTree : Request → Type 0
LeavesTree (Ok (task.Plan project)) = ⊥
LeavesTree (Ok (task.Abi project instance)) = ⊥
LeavesTree (Ok (task.Check project report)) = ⊥
LeavesTree (Ok (task.SelfLoad size project)) = Unit {0}
LeavesTree (Err fault) = Unit {0}
