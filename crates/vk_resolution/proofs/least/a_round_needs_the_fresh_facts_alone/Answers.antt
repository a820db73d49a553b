use Rattle.vk_resolution.proofs.FreshRounds.{fresh_round, nothing_follows, more_forced, forced_no_longer}
use Rattle.vk_resolution.proofs.Levels.{level_next, level_last}
use Rattle.vk_resolution.proofs.least.a_round_needs_the_fresh_facts_alone.Goals as goal

pub returns-clause-round : goal.returns-clause-round
returns-clause-round g c = fresh_round

pub returns-clause-nothing : goal.returns-clause-nothing
returns-clause-nothing g c = nothing_follows

pub returns-clause-part : goal.returns-clause-part
returns-clause-part g c = more_forced

pub returns-clause-longer : goal.returns-clause-longer
returns-clause-longer g c = forced_no_longer

pub returns-clause-levels : goal.returns-clause-levels
returns-clause-levels g c = record { next = level_next; last = level_last }
