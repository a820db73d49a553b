use Rattle.vk_abi_text.proofs.OneInput.{one_input, what_is_read}
use Rattle.vk_abi_text.proofs.laws.what_is_read_is_the_text.Goals as goal

pub returns-clause-text : goal.returns-clause-text
returns-clause-text c = what_is_read

pub returns-clause-one : goal.returns-clause-one
returns-clause-one c = one_input
