use Rattle.vk_resolution.proofs.Uniqueness.{keys_are_ordered, lines_are_listed}
use Rattle.vk_resolution.proofs.outcomes.orders_are_total.Goals as goal

pub returns-clause-keys : goal.returns-clause-keys
returns-clause-keys c = keys_are_ordered

pub returns-clause-lines : goal.returns-clause-lines
returns-clause-lines c = lines_are_listed
