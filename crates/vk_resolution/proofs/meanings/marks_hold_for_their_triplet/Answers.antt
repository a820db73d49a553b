use Rattle.vk_resolution.proofs.MarkLemmas.{marks_mean}
use Rattle.vk_resolution.proofs.meanings.marks_hold_for_their_triplet.Goals as goal

pub returns : goal.returns
returns c = marks_mean
