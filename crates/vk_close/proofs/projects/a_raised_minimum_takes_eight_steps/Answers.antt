use Rattle.std.proofs.Common.{ap}
use Rattle.vk_resolution.specs.Projects as Projects
use Rattle.vk_resolution.specs.Reasons.{facts_of}
use Rattle.vk_resolution.proofs.Uniqueness.{reasons_same}
use Rattle.vk_resolution.proofs.ProjectLemmas.{raised_minimum_line_by_line}
use Rattle.vk_worklist.specs.Ticks.{ticks}
use Rattle.vk_close.proofs.projects.a_raised_minimum_takes_eight_steps.Goals as goal

pub returns : goal.returns
returns c reasons is = ap (λ r. ticks (facts_of r)) (reasons_same Projects.raised_minimum reasons Projects.raised_minimum_reasons is raised_minimum_line_by_line)
