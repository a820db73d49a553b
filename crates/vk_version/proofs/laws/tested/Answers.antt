use Rattle.vk_version.proofs.TestLemmas.{at_most_is}
use Rattle.vk_version.proofs.laws.tested.Goals as goal

pub returns : goal.returns
returns c = at_most_is
