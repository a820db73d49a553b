use Rattle.vk_abi_text.proofs.NeverBoth.{read_only_so}
use Rattle.vk_abi_text.proofs.OneInput.{read_again}
use Rattle.vk_abi_text.proofs.laws.a_text_is_read_as_its_input.Goals as goal

pub returns-clause-read : goal.returns-clause-read
returns-clause-read c = read_again

pub returns-clause-answer : goal.returns-clause-answer
returns-clause-answer c = read_only_so
