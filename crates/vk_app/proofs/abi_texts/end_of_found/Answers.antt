use Rattle.vk_app.specs.Ends.{end_view}
use Rattle.vk_app.proofs.TextLemmas.{fits_plan, ends_plan, ends_none}
use Rattle.vk_app.proofs.abi_texts.end_of_found.Goals as goal

pub end_in_plan-requires : goal.end_in_plan-requires
end_in_plan-requires g c = fits_plan c.in-Some.plan.now c.args.outcome.now c.args.found.now (rw c.in-Some.is at c.plan_in.ensures.some) c.requires

pub returns-in-Some : goal.returns-in-Some
returns-in-Some g c = ends_plan c.args.wanted c.in-Some.plan.now c.args.outcome.now c.args.found.now (end_view c.end_in_plan.result) _ _ (rw c.in-Some.is at c.plan_in.ensures.some) c.end_in_plan.ensures

pub returns-in-None : goal.returns-in-None
returns-in-None g c = ends_none c.args.wanted c.args.outcome.now c.args.found.now (end_view c.end_of_resolved.result) _ (rw c.in-None.is at c.plan_in.ensures.none) c.end_of_resolved.ensures
