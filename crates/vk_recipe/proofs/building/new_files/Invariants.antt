use Rattle.std.proofs.Common.{◌≡◌, ◌++◌, map}
use Rattle.std.specs.Prelude.{flat_map}
use Rattle.std.specs.Vec.Iter.{into_iter_items}
use Rattle.vk_entry.specs.PackageViews.{file_view}
use Rattle.vk_recipe.specs.RecipeViews.{step_view}
use Rattle.vk_recipe.specs.Builds.{file_of_step}
use Rattle.vk_recipe.specs.JobViews.{job_view}
use Rattle.vk_recipe.proofs.building.new_files.Given as goal

abbrev pub invariant-loop-step : goal.invariant-loop-step
invariant-loop-step l =
    let f = file_of_step (job_view l.job) in
    map file_view l.files ++ flat_map f (map step_view (into_iter_items l.step-iterator))
    ≡ flat_map f (map step_view l.fn.steps)
