-- The answer of words and files: the status of a run, and the bytes on both sinks.
use Rattle.std.specs.Prelude.{◌≡◌, Result, Ok, Err}
use Rattle.vk_spec.specs.Files.{Files}
use Rattle.vk_spec.specs.Earlies.{Early}
use Rattle.vk_spec.specs.Settings.{Setting}
use Rattle.vk_gen.specs.Loads.{load_files}
use Rattle.vk_words.specs.Words.{Words}
use Rattle.vk_model.specs.SettingViews.{instance_view}
use Rattle.vk_opening.specs.Layouts.{Layout}
use Rattle.vk_opening.specs.Openings.{Opening, opened_of}
use Rattle.vk_pages.specs.Pages.{page_of}
use Rattle.vk_app.specs.declared.requests.Task.{Task}
use Rattle.vk_app.specs.declared.requests.Task.TheVariants as task
use Rattle.vk_app.specs.Requests.{Request, project_of, request_of}
use Rattle.vk_app.specs.Resolutions.{Resolution, early, IsSettingOf, Settles}
use Rattle.vk_app.specs.Shown.{Shown, told, words_line, shown_for}
use Rattle.vk_app.specs.Texts.{shared_of, ShowsText}
use Rattle.vk_app.specs.Checks.{ShowsCheck}
use Rattle.vk_app.specs.Loads.{load_shown}

-- what a task shows of a project that comes to this: its report, the ABI text of an instance in its plan, the verdict on a report in a file, or the figures of a load
abbrev pub ShowsTask : Task → Setting → Layout → Files → Resolution → Shown → Type 0
ShowsTask (task.Plan project) setting layout files r shown = shown ≡ shown_for r
ShowsTask (task.Abi project i) setting layout files r shown = ShowsText (shared_of project setting) layout files (instance_view i) r shown
ShowsTask (task.Check project report) setting layout files r shown = ShowsCheck report files r shown
ShowsTask (task.SelfLoad size project) setting layout files r shown = shown ≡ load_shown size r

-- what it shows under a setting, by what this and the pages of the files come to
abbrev pub ShowsSettled : Task → Setting → Layout → Files → Shown → Type 0
ShowsSettled task setting layout files shown = (r : Resolution) × Settles setting (page_of layout files) r × ShowsTask task setting layout files r shown

-- what it shows of a project that opens, by its setting
pub record ShowsOpening (task : Task) (opening : Opening) (files : Files) (shown : Shown) : Type 0 where
  pub setting : Setting
  pub is_setting : IsSettingOf opening setting
  pub shows : ShowsSettled task setting opening.layout files shown

-- a project that doesn't open is shown by its early line, against which a report is checked too
abbrev pub ShowsEarly : Task → Early → Files → Shown → Type 0
ShowsEarly (task.Plan project) e files shown = shown ≡ shown_for (early e)
ShowsEarly (task.Abi project i) e files shown = shown ≡ shown_for (early e)
ShowsEarly (task.Check project report) e files shown = ShowsCheck report files (early e) shown
ShowsEarly (task.SelfLoad size project) e files shown = shown ≡ shown_for (early e)

abbrev pub ShowsRead : Task → Result Opening Early → Files → Shown → Type 0
ShowsRead task (Err e) files shown = ShowsEarly task e files shown
ShowsRead task (Ok opening) files shown = ShowsOpening task opening files shown

-- what a task shows of its project in these files
abbrev pub ShowsProject : Task → Files → Shown → Type 0
ShowsProject task files shown = ShowsRead task (opened_of (project_of task) files) files shown

-- the files that a task is about: a load has its own, whatever the tree holds
abbrev pub files_for : Task → Files → Files
files_for (task.Plan project) files = files
files_for (task.Abi project i) files = files
files_for (task.Check project report) files = files
files_for (task.SelfLoad size project) files = load_files size

-- a fault of the words is told; of a task, what it shows of its project is shown
abbrev pub IsAnswerTo : Request → Files → Shown → Type 0
IsAnswerTo (Err fault) files shown = shown ≡ told 2 (words_line fault)
IsAnswerTo (Ok task) files shown = ShowsProject task (files_for task files) shown

abbrev pub IsAnswer : Words → Files → Shown → Type 0
IsAnswer words files shown = IsAnswerTo (request_of words) files shown
