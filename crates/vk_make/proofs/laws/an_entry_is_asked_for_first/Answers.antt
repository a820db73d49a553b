use Rattle.vk_make.proofs.AskedFirst.{asks_first}
use Rattle.vk_make.proofs.laws.an_entry_is_asked_for_first.Goals as goal

pub returns : goal.returns
returns c = asks_first
