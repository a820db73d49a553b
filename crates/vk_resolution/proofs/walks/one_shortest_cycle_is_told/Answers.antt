use Rattle.vk_resolution.proofs.WalkLemmas.{cycle_exists, cycle_is_found, cycle_is_one, cycle_is_shortest, round_is_a_way}
use Rattle.vk_resolution.proofs.walks.one_shortest_cycle_is_told.Goals as goal

pub returns-clause-exists : goal.returns-clause-exists
returns-clause-exists c = cycle_exists

pub returns-clause-found : goal.returns-clause-found
returns-clause-found c = cycle_is_found

pub returns-clause-one : goal.returns-clause-one
returns-clause-one c = cycle_is_one

pub returns-clause-shortest : goal.returns-clause-shortest
returns-clause-shortest c = cycle_is_shortest

pub returns-clause-round : goal.returns-clause-round
returns-clause-round c = round_is_a_way
