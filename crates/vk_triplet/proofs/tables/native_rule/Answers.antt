use Rattle.vk_triplet.proofs.MarkLemmas.{native_last}
use Rattle.vk_triplet.proofs.tables.native_rule.Goals as goal

pub returns : goal.returns
returns c = native_last
