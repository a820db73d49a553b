use Rattle.vk_resolution.proofs.PlannedVersionLemmas.{planned_versions}
use Rattle.vk_resolution.proofs.plans.a_planned_version_is_the_least_allowed.Goals as goal

pub returns : goal.returns
returns c = planned_versions
