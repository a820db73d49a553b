use Rattle.vk_resolution.proofs.ProjectLemmas.{realistic, realistic_needs}
use Rattle.vk_resolution.proofs.projects.a_realistic_project.Goals as goal

pub returns-clause-planned : goal.returns-clause-planned
returns-clause-planned c = realistic

pub returns-clause-needs : goal.returns-clause-needs
returns-clause-needs c = realistic_needs
