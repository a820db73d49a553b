use Rattle.std.proofs.Common.{◌≡◌, [], map, take, drop}
use Rattle.vk_spec.specs.Reading.{read_after}
use Rattle.vk_recipe.specs.RecipeViews.{step_view}
use Rattle.vk_recipe.specs.Builds.{judged, paths_of}
use Rattle.vk_recipe.specs.JobViews.{job_view}
use Rattle.vk_recipe.specs.Destinations.{AreTaken}
use Rattle.vk_recipe.proofs.building.check.Given as goal

abbrev pub invariant-loop-n : goal.invariant-loop-n
invariant-loop-n l =
    let f = judged (job_view l.job) in
    (read_after f (map step_view (take l.n l.steps)) l.n (drop l.n (map step_view l.steps))
    ≡ read_after f [] 0 (map step_view l.steps))
    × AreTaken (paths_of (job_view l.job) (map step_view (take l.n l.steps))) l.taken.keys
