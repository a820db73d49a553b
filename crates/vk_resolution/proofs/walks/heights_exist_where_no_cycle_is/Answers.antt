use Rattle.vk_resolution.proofs.WalkLemmas.{heights_have_no_cycle, no_cycle_gives_heights, targets_are_lower, targets_stand_before}
use Rattle.vk_resolution.proofs.Uniqueness.{height_order_is_one}
use Rattle.vk_resolution.proofs.walks.heights_exist_where_no_cycle_is.Goals as goal

pub returns-clause-none : goal.returns-clause-none
returns-clause-none c = heights_have_no_cycle

pub returns-clause-exist : goal.returns-clause-exist
returns-clause-exist c = no_cycle_gives_heights

pub returns-clause-lower : goal.returns-clause-lower
returns-clause-lower c = targets_are_lower

pub returns-clause-before : goal.returns-clause-before
returns-clause-before c = targets_stand_before

pub returns-clause-one : goal.returns-clause-one
returns-clause-one c = height_order_is_one
