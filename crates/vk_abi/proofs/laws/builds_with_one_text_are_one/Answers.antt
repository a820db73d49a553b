use Rattle.vk_abi_text.proofs.SameTexts.{texts_tell_inputs}
use Rattle.vk_abi.proofs.NodeLemmas.{texts_tell_nodes}
use Rattle.vk_abi.proofs.laws.builds_with_one_text_are_one.Goals as goal

pub returns : goal.returns
returns c = texts_tell_nodes texts_tell_inputs
