use Rattle.vk_resolution.proofs.ProjectLemmas.{cycle, leads_in, tied_cycles, shorter_cycle}
use Rattle.vk_resolution.proofs.projects.cycles.Goals as goal

pub returns-clause-three : goal.returns-clause-three
returns-clause-three c = cycle

pub returns-clause-leads_in : goal.returns-clause-leads_in
returns-clause-leads_in c = leads_in

pub returns-clause-tied : goal.returns-clause-tied
returns-clause-tied c = tied_cycles

pub returns-clause-shorter : goal.returns-clause-shorter
returns-clause-shorter c = shorter_cycle
