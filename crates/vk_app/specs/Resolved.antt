-- Resolving a project over a tree: what is answered, and what is done to the tree.
use Rattle.std.specs.Prelude.{◌≡◌, Result, Ok, Err}
use Rattle.vk_spec.specs.Paths.{Path}
use Rattle.vk_spec.specs.Files.{Files}
use Rattle.vk_spec.specs.Earlies.{Early}
use Rattle.vk_resolution.specs.Outcomes as plain
use Rattle.vk_base.specs.declared.stops.Stop.{Stop}
use Rattle.vk_base.specs.declared.stops.Stop.TheVariants as stop
use Rattle.vk_model.specs.FaultViews.{outcome_view}
use Rattle.vk_model.specs.EarlyViews.{early_view}
use Rattle.vk_model.specs.SettingViews.{setting_view}
use Rattle.vk_model.specs.declared.plans.Outcome.{Outcome}
use Rattle.vk_opening.specs.Views.{layout_view}
use Rattle.vk_opening.specs.declared.opens.Opened.{Opened}
use Rattle.vk_opening.specs.declared.opens.Opened.TheVariants as opened
use Rattle.vk_worklist.specs.declared.faults.CloseFault.{CloseFault}
use Rattle.vk_worklist.specs.declared.faults.CloseFault.TheVariants.{Facts}
use Rattle.vk_app.specs.Asked.{Purpose, IsOfPorts, AsksNothing}
use Rattle.vk_app.specs.Resolutions.{Resolution, early, resolved, too_many}
use Rattle.vk_app.specs.Shown.{Shown}
use Rattle.vk_app.specs.Answers.{ShowsSettled, ShowsEarly}
use Rattle.vk_app.specs.declared.requests.Task.{Task}
use Rattle.vk_model.specs.declared.projects.Project.{Project}
use Rattle.vk_model.specs.declared.settings.Setting.{Setting}

-- an outcome or an early line as what files come to
abbrev pub resolution_of : Result plain.Outcome Early → Resolution
resolution_of (Ok o) = resolved o
resolution_of (Err e) = early e

-- the answer is what this holds of, unless the tree failed or memory ran out
abbrev pub Resolves : (Resolution → Type 0) → Result Outcome (Stop CloseFault) → Type 0
Resolves P (Ok outcome) = P (resolution_of (outcome_view outcome))
Resolves P (Err (stop.Fault (Facts most))) = P (too_many most)
Resolves P (Err stop.Failed) = Unit {0}
Resolves P (Err (stop.Memory m)) = Unit {0}

-- what a task shows of what was opened: its early line, or what it shows under its setting
abbrev pub OpenedShows : Task → Opened → Files → Shown → Type 0
OpenedShows task (opened.Ready setting layout) files shown = ShowsSettled task (setting_view setting) (layout_view layout) files shown
OpenedShows task (opened.Refused e) files shown = ShowsEarly task (early_view e) files shown

-- what is asked for then: on the ports' behalf, or nothing
abbrev pub OpenedMayAsk : Opened → Purpose → Files → Path → Type 0
OpenedMayAsk (opened.Ready setting layout) purpose files path = IsOfPorts (layout_view layout) purpose files path
OpenedMayAsk (opened.Refused e) purpose files path = AsksNothing purpose files path

-- as many requirements are allowed as the words say
abbrev pub IsReady : Project → Setting → Type 0
IsReady project setting = setting.max_facts ≡ project.max_facts

abbrev pub IsOpenedFor : Project → Opened → Type 0
IsOpenedFor project (opened.Ready setting layout) = IsReady project setting
IsOpenedFor project (opened.Refused e) = Unit {0}
