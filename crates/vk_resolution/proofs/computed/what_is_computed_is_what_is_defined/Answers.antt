use Rattle.vk_resolution.proofs.ComputedOutcome.{outcome_is}
use Rattle.vk_resolution.proofs.OffLists.{off_listed}
use Rattle.vk_resolution.proofs.computed.what_is_computed_is_what_is_defined.Goals as goal

pub returns-clause-outcome : goal.returns-clause-outcome
returns-clause-outcome c = outcome_is

pub returns-clause-off : goal.returns-clause-off
returns-clause-off c = off_listed
