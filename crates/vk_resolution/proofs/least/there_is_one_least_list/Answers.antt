use Rattle.vk_resolution.proofs.LeastLemmas.{one_rank, least_same, reached_within}
use Rattle.vk_resolution.proofs.Rounds.{member_ranked, least_exists}
use Rattle.vk_resolution.proofs.least.there_is_one_least_list.Goals as goal

pub returns-clause-members : goal.returns-clause-members
returns-clause-members g c rules one other is is_other = (least_same rules one other is is_other, least_same rules other one is_other is)

pub returns-clause-rank : goal.returns-clause-rank
returns-clause-rank g c = one_rank

pub returns-clause-ranked : goal.returns-clause-ranked
returns-clause-ranked g c = member_ranked

pub returns-clause-forced : goal.returns-clause-forced
returns-clause-forced g c rules facts closed n x rank = reached_within rules facts closed n x rank.reached

pub returns-clause-exists : goal.returns-clause-exists
returns-clause-exists g c = least_exists
