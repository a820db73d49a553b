use Rattle.vk_opening.proofs.LawLemmas.{first_has, none_has}
use Rattle.vk_opening.proofs.laws.first_triplet.Goals as goal

pub returns-clause-first : goal.returns-clause-first
returns-clause-first c = first_has

pub returns-clause-none : goal.returns-clause-none
returns-clause-none c = none_has
