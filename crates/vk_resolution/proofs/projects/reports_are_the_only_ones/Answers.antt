use Rattle.vk_resolution.proofs.ExampleLemmas.{at_most_is_order}
use Rattle.vk_resolution.proofs.ProjectLemmas.{reports_alone}
use Rattle.vk_resolution.proofs.projects.reports_are_the_only_ones.Goals as goal

pub returns-clause-order : goal.returns-clause-order
returns-clause-order c = at_most_is_order

pub returns-clause-alone : goal.returns-clause-alone
returns-clause-alone c = reports_alone
