use Rattle.vk_resolution.proofs.ProjectLemmas.{superseded_minimum, superseded_reach, superseded_cycle, superseded_conflict}
use Rattle.vk_resolution.proofs.projects.superseded_versions.Goals as goal

pub returns-clause-minimum : goal.returns-clause-minimum
returns-clause-minimum c = superseded_minimum

pub returns-clause-reach : goal.returns-clause-reach
returns-clause-reach c = superseded_reach

pub returns-clause-cycle : goal.returns-clause-cycle
returns-clause-cycle c = superseded_cycle

pub returns-clause-conflict : goal.returns-clause-conflict
returns-clause-conflict c = superseded_conflict
