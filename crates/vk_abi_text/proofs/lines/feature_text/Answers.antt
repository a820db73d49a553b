use Rattle.vk_abi_text.proofs.RightLemmas.{right_feature}
use Rattle.vk_abi_text.proofs.lines.feature_text.Goals as goal

pub returns-in-Named-clause-name : goal.returns-in-Named-clause-name
returns-in-Named-clause-name c = rw c.in-Named.is (right_feature c.in-Named.name c.as_str.ensures.name)
