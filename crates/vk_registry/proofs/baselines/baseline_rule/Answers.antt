use Rattle.vk_registry.proofs.EntryLemmas.{asks_as_entry, entry_of_ask}
use Rattle.vk_registry.proofs.baselines.baseline_rule.Goals as goal

pub returns-clause-found : goal.returns-clause-found
returns-clause-found c = asks_as_entry

pub returns-clause-only : goal.returns-clause-only
returns-clause-only c = entry_of_ask
