use Rattle.std.proofs.Common.{[], map, take}
use Rattle.std.proofs.lemmas.Result.{err_from_is_err_and}
use Rattle.vk_spec.specs.Reading.{read_after}
use Rattle.vk_spec.proofs.ReadingLemmas.{after_ends}
use Rattle.vk_base.specs.Stops.{fault_in}
use Rattle.vk_recipe.specs.RecipeViews.{step_view}
use Rattle.vk_recipe.specs.Builds.{judged}
use Rattle.vk_recipe.specs.JobViews.{job_view}
use Rattle.vk_recipe.proofs.BuildLemmas.{step_done, steps_done}
use Rattle.vk_recipe.proofs.building.check.Goals as goal

pub returns-in_err-judge : goal.returns-in_err-judge
returns-in_err-judge c =
    let p = err_from_is_err_and c.from_residual.result c.from_residual.ensures.1 in
    let f = judged (job_view c.args.job.now) in
    rw (p.1, p.2)
    (after_ends step_view step_view f (fault_in c.in_err-judge.field-0.0) (take c.loop-n.n c.args.steps.now)
    c.loop-n.n c.args.steps.now c.index-steps-n.result
    (read_after f [] 0 (map step_view c.args.steps.now)) c.loop-n-test.true c.index-steps-n.is
    (c.in_err-judge.ensures.judged (map step_view (take c.loop-n.n c.args.steps.now)) c.loop-n.invariant.1)
    c.loop-n.invariant.0)

pub loop-n-preserved : goal.loop-n-preserved
loop-n-preserved c =
    let earlier = map step_view (take c.loop-n.n c.args.steps.now) in
    step_done (job_view c.args.job.now) c.args.steps.now c.loop-n.n c.index-steps-n.result c.loop-n-test.true c.index-steps-n.is
    c.judge.new.taken.keys (read_after (judged (job_view c.args.job.now)) [] 0 (map step_view c.args.steps.now))
    (c.in_ok-judge.ensures.judged earlier c.loop-n.invariant.1)
    (c.in_ok-judge.ensures.taken earlier c.loop-n.invariant.1) c.loop-n.invariant.0

pub returns : goal.returns
returns c =
    steps_done (job_view c.args.job.now) c.args.steps.now c.loop-n.n c.loop-n-test.false
    (read_after (judged (job_view c.args.job.now)) [] 0 (map step_view c.args.steps.now)) c.loop-n.invariant.0
