use Rattle.vk_resolution.proofs.ChoiceLemmas.{choice_is_least, choice_is_above_floors, table_has_floors, choice_or_conflict}
use Rattle.vk_resolution.proofs.choices.a_choice_is_the_least_version_allowed.Goals as goal

pub returns-clause-least : goal.returns-clause-least
returns-clause-least c = choice_is_least

pub returns-clause-above : goal.returns-clause-above
returns-clause-above c = choice_is_above_floors

pub returns-clause-table : goal.returns-clause-table
returns-clause-table c = table_has_floors

pub returns-clause-conflict : goal.returns-clause-conflict
returns-clause-conflict c = choice_or_conflict
