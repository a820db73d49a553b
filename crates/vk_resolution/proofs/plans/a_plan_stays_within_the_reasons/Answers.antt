use Rattle.vk_resolution.proofs.PlanLemmas.{plan_exists, plan_stays_within}
use Rattle.vk_resolution.proofs.plans.a_plan_stays_within_the_reasons.Goals as goal

pub returns-clause-exists : goal.returns-clause-exists
returns-clause-exists c = plan_exists

pub returns-clause-within : goal.returns-clause-within
returns-clause-within c = plan_stays_within
