use Rattle.vk_abi_text.proofs.NeverBoth.{never_both}
use Rattle.vk_abi_text.proofs.laws.a_text_is_read_or_refused.Goals as goal

pub returns : goal.returns
returns c = never_both
