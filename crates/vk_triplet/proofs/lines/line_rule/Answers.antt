use Rattle.vk_triplet.proofs.SayLemmas.{says_found}
use Rattle.vk_triplet.proofs.FindLemmas.{found_says}
use Rattle.vk_triplet.proofs.lines.line_rule.Goals as goal

pub returns : goal.returns
returns c = record { found = says_found; only = found_says }
