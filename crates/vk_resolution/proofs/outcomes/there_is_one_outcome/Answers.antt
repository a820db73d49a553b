use Rattle.vk_resolution.proofs.Existence.{outcome_exists, planned_edges_are}
use Rattle.vk_resolution.proofs.Uniqueness.{outcome_is_one, needs_are_before}
use Rattle.vk_resolution.proofs.outcomes.there_is_one_outcome.Goals as goal

pub returns-clause-exists : goal.returns-clause-exists
returns-clause-exists c = outcome_exists

pub returns-clause-one : goal.returns-clause-one
returns-clause-one c = outcome_is_one

pub returns-clause-edges : goal.returns-clause-edges
returns-clause-edges c = planned_edges_are

pub returns-clause-needs : goal.returns-clause-needs
returns-clause-needs c = needs_are_before
