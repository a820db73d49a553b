use Rattle.vk_triplet.proofs.FileLemmas.{set_last, never_set}
use Rattle.vk_triplet.proofs.triplets.value_rule.Goals as goal

pub returns : goal.returns
returns c = record { last = set_last; never = never_set }
