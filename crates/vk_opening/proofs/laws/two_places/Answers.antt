use Rattle.vk_opening.proofs.LawLemmas.{beside_a_file, under_both_keys, too_long_first}
use Rattle.vk_opening.proofs.laws.two_places.Goals as goal

pub returns-clause-beside : goal.returns-clause-beside
returns-clause-beside c = beside_a_file

pub returns-clause-within : goal.returns-clause-within
returns-clause-within c = under_both_keys

pub returns-clause-long : goal.returns-clause-long
returns-clause-long c = too_long_first
