use Rattle.vk_resolution.proofs.PlannerLemmas.{premises_are_met}
use Rattle.vk_resolution.proofs.planner.the_premises_are_met.Goals as goal

pub returns : goal.returns
returns c = premises_are_met
