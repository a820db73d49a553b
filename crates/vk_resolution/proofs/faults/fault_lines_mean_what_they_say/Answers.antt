use Rattle.vk_resolution.proofs.FaultLemmas.{first_lines_mean, second_lines_mean, third_lines_mean, versions_come_in_order}
use Rattle.vk_resolution.proofs.TroubleLemmas.{troubles_mean}
use Rattle.vk_resolution.proofs.faults.fault_lines_mean_what_they_say.Goals as goal

pub returns-clause-first : goal.returns-clause-first
returns-clause-first c = first_lines_mean

pub returns-clause-second : goal.returns-clause-second
returns-clause-second c = second_lines_mean

pub returns-clause-third : goal.returns-clause-third
returns-clause-third c = third_lines_mean

pub returns-clause-versions : goal.returns-clause-versions
returns-clause-versions c = versions_come_in_order

pub returns-clause-troubles : goal.returns-clause-troubles
returns-clause-troubles c = troubles_mean
