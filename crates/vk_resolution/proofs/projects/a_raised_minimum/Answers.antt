use Rattle.vk_resolution.proofs.ProjectLemmas.{raised_minimum, raised_minimum_line_by_line}
use Rattle.vk_resolution.proofs.projects.a_raised_minimum.Goals as goal

pub returns-clause-planned : goal.returns-clause-planned
returns-clause-planned c = raised_minimum

pub returns-clause-reasons : goal.returns-clause-reasons
returns-clause-reasons c = raised_minimum_line_by_line
