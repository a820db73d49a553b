-- What the law on a plan's reading says.
use Rattle.std.specs.Prelude.{◌≡◌, ℕ, List, Ok}
use Rattle.vk_spec.specs.Lists.{NoRepeats}
use Rattle.vk_spec.specs.Paths.{Path}
use Rattle.vk_spec.specs.States.{with_asked}
use Rattle.vk_model.specs.declared.projects.Project.{Project}
use Rattle.vk_app.specs.declared.requests.Task.TheVariants as task
use Rattle.vk_app.specs.Runs.{Outside, RunsAs}

-- a run that plans asks a tree for these paths, none of them twice
abbrev pub PlansAskOnce : Type 0
PlansAskOnce = (project : Project) (status : ℕ) (before after : Outside) → RunsAs (Ok (task.Plan project)) status before after
    → (asked : List Path) × (after.tree.told ≡ with_asked asked before.tree.told) × NoRepeats asked
