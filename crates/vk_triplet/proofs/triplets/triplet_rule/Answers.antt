use Rattle.vk_triplet.proofs.FileLemmas.{has_variables, first_unread, no_utf8}
use Rattle.vk_triplet.proofs.triplets.triplet_rule.Goals as goal

pub returns : goal.returns
returns c = record { variables = has_variables; line = first_unread; not_text = no_utf8 }
