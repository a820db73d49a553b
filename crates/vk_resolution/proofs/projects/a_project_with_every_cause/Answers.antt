use Rattle.vk_resolution.proofs.ProjectLemmas.{every_cause, every_cause_needs, every_cause_line_by_line}
use Rattle.vk_resolution.proofs.projects.a_project_with_every_cause.Goals as goal

pub returns-clause-planned : goal.returns-clause-planned
returns-clause-planned c = every_cause

pub returns-clause-needs : goal.returns-clause-needs
returns-clause-needs c = every_cause_needs

pub returns-clause-reasons : goal.returns-clause-reasons
returns-clause-reasons c = every_cause_line_by_line
