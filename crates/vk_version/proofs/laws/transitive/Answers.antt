use Rattle.vk_version.proofs.OrderLemmas.{AtMost-trans}
use Rattle.vk_version.proofs.laws.transitive.Goals as goal

pub returns : goal.returns
returns c = AtMost-trans
