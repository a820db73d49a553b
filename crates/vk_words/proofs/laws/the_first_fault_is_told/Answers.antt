use Rattle.vk_words.proofs.FirstFaultLemmas.{first_is_told, told_is_first}
use Rattle.vk_words.proofs.StepLemmas.{fault_tells_its_word}
use Rattle.vk_words.proofs.laws.the_first_fault_is_told.Goals as goal

pub returns-clause-first : goal.returns-clause-first
returns-clause-first c = first_is_told

pub returns-clause-only : goal.returns-clause-only
returns-clause-only c = told_is_first

pub returns-clause-number : goal.returns-clause-number
returns-clause-number c = fault_tells_its_word
