use Rattle.vk_version.proofs.OrderLemmas.{AtMost-refl}
use Rattle.vk_version.proofs.laws.reflexive.Goals as goal

pub returns : goal.returns
returns c = AtMost-refl
