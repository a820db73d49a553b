use Rattle.std.proofs.Common.{◌≡◌, ◌++◌, ◌∷◌, map, ap, sym, ◌∙◌, append_assoc}
use Rattle.std.specs.Prelude.{flat_map}
use Rattle.std.specs.Vec.Iter.{into_iter_items}
use Rattle.std.proofs.lemmas.List.{append-nil}
use Rattle.vk_entry.specs.PackageViews.{file_view}
use Rattle.vk_recipe.specs.RecipeViews.{step_view}
use Rattle.vk_recipe.specs.Builds.{file_of_step}
use Rattle.vk_recipe.specs.JobViews.{job_view}
use Rattle.vk_recipe.proofs.BuildLemmas.{nothing_left}
use Rattle.vk_recipe.proofs.building.new_files.Goals as goal

pub loop-step-preserved : goal.loop-step-preserved
loop-step-preserved c =
    let f = file_of_step (job_view c.args.job.now) in
    let left : into_iter_items c.loop-step.step-iterator ≡ c.in-Some.step ∷ into_iter_items c.next.new.self = c.in-Some.ensures.steps.0 in
    let rest = flat_map f (map step_view (into_iter_items c.next.new.self)) in
    ap (λ l. l ++ rest) c.in_ok-push_file.ensures
    ∙ append_assoc (map file_view c.loop-step.files) (f (step_view c.in-Some.step)) rest
    ∙ ap (λ l. map file_view c.loop-step.files ++ flat_map f (map step_view l)) (sym left)
    ∙ c.loop-step.invariant

pub returns : goal.returns
returns c =
    let f = file_of_step (job_view c.args.job.now) in
    sym (append-nil (map file_view c.loop-step.files))
    ∙ ap (λ l. map file_view c.loop-step.files ++ flat_map f (map step_view l)) (sym (nothing_left (into_iter_items c.loop-step.step-iterator) (sym c.loop-step.step-iterator.rest.ok.0 ∙ c.in-None.ensures.steps.0)))
    ∙ c.loop-step.invariant
