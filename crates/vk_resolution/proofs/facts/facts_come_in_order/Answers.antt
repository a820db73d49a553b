use Rattle.vk_resolution.proofs.FactOrderLemmas.{facts_come_in_order}
use Rattle.vk_resolution.proofs.facts.facts_come_in_order.Goals as goal

pub returns : goal.returns
returns c = facts_come_in_order
