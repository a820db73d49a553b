use Rattle.vk_opening.proofs.LawLemmas.{decided, asked_early}
use Rattle.vk_opening.proofs.laws.early_files.Goals as goal

pub returns-clause-decided : goal.returns-clause-decided
returns-clause-decided c = decided

pub returns-clause-asked : goal.returns-clause-asked
returns-clause-asked c = asked_early
