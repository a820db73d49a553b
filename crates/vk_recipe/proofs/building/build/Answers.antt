use Rattle.std.proofs.lemmas.List.{length-map}
use Rattle.vk_recipe.specs.RecipeViews.{step_view, steps_view}
use Rattle.vk_recipe.specs.JobViews.{job_view}
use Rattle.vk_recipe.proofs.FolderLemmas.{few_in, texts_in}
use Rattle.vk_recipe.proofs.building.build.Goals as goal

pub check-requires : goal.check-requires
check-requires c =
    rw (c.as_slice.ensures, ← length-map c.in_ok-recipe.recipe.steps step_view)
    (few_in c.args.job.now.folder.now (steps_view c.in_ok-recipe.recipe.steps) c.in_ok-recipe.ensures)

pub in_order-requires : goal.in_order-requires
in_order-requires c =
    rw (c.in_ok-files.ensures)
    (texts_in (job_view c.args.job.now) (steps_view c.in_ok-recipe.recipe.steps) (steps_view c.in_ok-recipe.recipe.steps)
    c.in_ok-recipe.ensures (rw c.as_slice.ensures at c.in_ok-check.ensures))
