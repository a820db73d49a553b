use Rattle.vk_resolution.proofs.PlanSetLemmas.{plan_set_is_one, plan_set_edges, ordered_set_is_plan, plan_set_cycles, plan_set_exists, ordered_exists}
use Rattle.vk_resolution.proofs.planned_sets.a_planned_set_in_order_is_the_plan.Goals as goal

pub returns-clause-one : goal.returns-clause-one
returns-clause-one c = plan_set_is_one

pub returns-clause-edges : goal.returns-clause-edges
returns-clause-edges c = plan_set_edges

pub returns-clause-plan : goal.returns-clause-plan
returns-clause-plan c = ordered_set_is_plan

pub returns-clause-cycles : goal.returns-clause-cycles
returns-clause-cycles c = plan_set_cycles

pub returns-clause-exists : goal.returns-clause-exists
returns-clause-exists c = plan_set_exists

pub returns-clause-ordered : goal.returns-clause-ordered
returns-clause-ordered c = ordered_exists
