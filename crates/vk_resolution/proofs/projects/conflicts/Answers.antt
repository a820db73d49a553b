use Rattle.vk_resolution.proofs.ProjectLemmas.{conflict, overridden, conflict_by_text}
use Rattle.vk_resolution.proofs.projects.conflicts.Goals as goal

pub returns-clause-texts : goal.returns-clause-texts
returns-clause-texts c = conflict

pub returns-clause-overridden : goal.returns-clause-overridden
returns-clause-overridden c = overridden

pub returns-clause-order : goal.returns-clause-order
returns-clause-order c = conflict_by_text
