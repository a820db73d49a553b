use Rattle.vk_version.proofs.TestLemmas.{AtMost-antisym}
use Rattle.vk_version.proofs.laws.antisymmetric.Goals as goal

pub returns : goal.returns
returns c = AtMost-antisym
