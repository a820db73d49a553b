use Rattle.vk_resolution.proofs.ProjectLemmas.{own_minimum, named_root}
use Rattle.vk_resolution.proofs.projects.own_instances.Goals as goal

pub returns-clause-minimum : goal.returns-clause-minimum
returns-clause-minimum c = own_minimum

pub returns-clause-root : goal.returns-clause-root
returns-clause-root c = named_root
