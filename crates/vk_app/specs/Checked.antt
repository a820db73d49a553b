-- How a report is read and judged, and how that ends.
use Rattle.std.specs.Prelude.{◌≡◌, ◌⊎◌, ℕ, Bool, List, [], ◌∷◌, Result, Ok, Err, codes}
use Rattle.vk_spec.specs.Paths.{Path}
use Rattle.vk_spec.specs.Files.{Files}
use Rattle.vk_spec.specs.Settings.{Setting}
use Rattle.vk_spec.specs.Standing.{Disk}
use Rattle.vk_spec.specs.States.{State, Looks}
use Rattle.vk_resolution.specs.Givens.{Pages}
use Rattle.vk_base.specs.declared.stops.Stop.{Stop}
use Rattle.vk_base.specs.declared.stops.Stop.TheVariants as stop
use Rattle.vk_tree.specs.declared.trees.ReadFault.{ReadFault}
use Rattle.vk_tree.specs.declared.trees.ReadFault.TheVariants as read
use Rattle.vk_files.specs.Kept.{absent, too_large, holds}
use Rattle.vk_model.specs.declared.projects.Project.{Project}
use Rattle.vk_opening.specs.Layouts.{Layout}
use Rattle.vk_pages.specs.Pages.{page_of}
use Rattle.vk_worklist.specs.declared.faults.CloseFault.{CloseFault}
use Rattle.vk_worklist.specs.declared.faults.CloseFault.TheVariants.{Facts}
use Rattle.vk_check.specs.Checked.{IsChecked}
use Rattle.vk_check.specs.declared.verdicts.Verdict.{Verdict}
use Rattle.vk_app.specs.Resolutions.{Resolution, too_many, Settles}
use Rattle.vk_app.specs.Shown.{Shown, told, printed, memory_line, tree_line}
use Rattle.vk_app.specs.Checks.{report_in, no_report, verdict_shown, ShowsAgainst}
use Rattle.vk_app.specs.Ends.{shown_of}

-- what reading the report says of what stands there
abbrev pub ReportIs : Path → Result (List ℕ) (Stop ReadFault) → Disk → Type 0
ReportIs path (Ok bytes) d = report_in (d path) ≡ holds bytes
ReportIs path (Err (stop.Fault read.Missing)) d = report_in (d path) ≡ absent
ReportIs path (Err (stop.Fault read.TooLarge)) d = report_in (d path) ≡ too_large
ReportIs path (Err stop.Failed) d = Unit {0}
ReportIs path (Err (stop.Memory m)) d = Unit {0}

-- nothing but the report was asked for, and that once at most
pub record ReadsReport (path : Path) (failed : Bool) (before after : State) : Type 0 where
  pub own : List Path
  pub once : (own ≡ []) ⊎ (own ≡ path ∷ [])
  pub looks : Looks own failed before after

-- how it is shown that there is no report to judge
abbrev pub shown_unread : Path → Stop ReadFault → Shown
shown_unread path (stop.Fault read.Missing) = printed 1 (no_report path (codes "absent"))
shown_unread path (stop.Fault read.TooLarge) = printed 1 (no_report path (codes "large"))
shown_unread path stop.Failed = told 4 tree_line
shown_unread path (stop.Memory m) = told 3 memory_line

-- what is judged of a report by a setting and pages, unless the tree failed or memory ran out
abbrev pub Judges : Setting → Pages → List ℕ → Result Verdict (Stop CloseFault) → Type 0
Judges setting pages report (Ok verdict) = IsChecked setting pages report verdict
Judges setting pages report (Err (stop.Fault (Facts most))) = Settles setting pages (too_many most)
Judges setting pages report (Err stop.Failed) = Unit {0}
Judges setting pages report (Err (stop.Memory m)) = Unit {0}

-- how that is shown
abbrev pub shown_judged : Project → Result Verdict (Stop CloseFault) → Shown
shown_judged project (Ok verdict) = verdict_shown verdict
shown_judged project (Err stop) = shown_of project (Err stop)

-- what is shown of a report's bytes under a setting, by what this and the pages of the files come to
abbrev pub ShowsJudged : List ℕ → Setting → Layout → Files → Shown → Type 0
ShowsJudged bytes setting layout files shown = (r : Resolution) × Settles setting (page_of layout files) r × ShowsAgainst bytes r shown

-- the end is one of these, or memory ran out before it was made
pub data EndsIn (Shows : Shown → Type 0) : Shown → Type 0 where
  made : {shown : Shown} → Shows shown → EndsIn Shows shown
  lacks : EndsIn Shows (told 3 memory_line)
