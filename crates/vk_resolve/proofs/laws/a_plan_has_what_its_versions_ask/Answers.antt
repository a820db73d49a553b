use Rattle.vk_resolve.proofs.PlanSentenceLemmas.{planned_means, plan_has_no_more, plan_has_no_less}
use Rattle.vk_resolve.proofs.laws.a_plan_has_what_its_versions_ask.Goals as goal

pub returns-clause-means : goal.returns-clause-means
returns-clause-means c = planned_means

pub returns-clause-no_more : goal.returns-clause-no_more
returns-clause-no_more c = plan_has_no_more

pub returns-clause-no_less : goal.returns-clause-no_less
returns-clause-no_less c = plan_has_no_less
