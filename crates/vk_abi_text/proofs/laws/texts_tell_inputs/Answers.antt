use Rattle.vk_abi_text.proofs.SameTexts.{texts_tell_inputs}
use Rattle.vk_abi_text.proofs.laws.texts_tell_inputs.Goals as goal

pub returns : goal.returns
returns c = texts_tell_inputs
