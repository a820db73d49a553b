use Rattle.vk_version.proofs.TestLemmas.{at_most-IsOrder}
use Rattle.vk_version.proofs.laws.tests_are_an_order.Goals as goal

pub returns : goal.returns
returns c = at_most-IsOrder
