use Rattle.vk_resolution.proofs.ProjectLemmas.{off_by_root, off_by_own_feature}
use Rattle.vk_resolution.proofs.projects.default_features.Goals as goal

pub returns-clause-root : goal.returns-clause-root
returns-clause-root c = off_by_root

pub returns-clause-own : goal.returns-clause-own
returns-clause-own c = off_by_own_feature
