use Rattle.vk_resolution.proofs.PlannerLemmas.{plans_keep_promises}
use Rattle.vk_resolution.proofs.planner.a_plan_keeps_its_promises.Goals as goal

pub returns : goal.returns
returns c = plans_keep_promises
