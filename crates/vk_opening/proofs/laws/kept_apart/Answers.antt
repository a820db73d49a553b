use Rattle.vk_opening.proofs.StoreLemmas.{stored_is}
use Rattle.vk_opening.proofs.laws.kept_apart.Goals as goal

pub returns : goal.returns
returns c = stored_is
