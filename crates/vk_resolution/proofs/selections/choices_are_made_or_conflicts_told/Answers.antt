use Rattle.vk_resolution.proofs.SelectionLemmas.{choices_or_conflicts, choices_have_no_conflict, choices_are_one, choices_list_ports, items_have_choices}
use Rattle.vk_resolution.proofs.selections.choices_are_made_or_conflicts_told.Goals as goal

pub returns-clause-either : goal.returns-clause-either
returns-clause-either c = choices_or_conflicts

pub returns-clause-never_both : goal.returns-clause-never_both
returns-clause-never_both c = choices_have_no_conflict

pub returns-clause-one : goal.returns-clause-one
returns-clause-one c = choices_are_one

pub returns-clause-ports : goal.returns-clause-ports
returns-clause-ports c = choices_list_ports

pub returns-clause-items : goal.returns-clause-items
returns-clause-items c = items_have_choices
