use Rattle.vk_resolution.specs.Reasons.{facts_of}
use Rattle.vk_model.specs.FactViews.{reasons_view}
use Rattle.vk_choices.proofs.RowLemmas.{in_order}
use Rattle.vk_choices.proofs.AskLemmas.{same_asks}
use Rattle.vk_choices.proofs.asks.asks_of.Goals as goal

pub returns-clause-asks : goal.returns-clause-asks
returns-clause-asks c = same_asks (facts_of (reasons_view c.args.reasons.now)) c.in_ok-rows.rows.entries c.sort_unstable_keys.new.self.entries c.sort_unstable_keys.ensures.reordered.2 c.in_ok-rows.ensures

pub returns-clause-ordered : goal.returns-clause-ordered
returns-clause-ordered c = in_order c.sort_unstable_keys.new.self.entries c.in_ok-sort_unstable_keys.ensures.sorted c.sort_unstable_keys.ensures.unique
