use Rattle.std.proofs.lemmas.Bool.{lt-ltb}
use Rattle.vk_version.proofs.SameTextLemmas.{same_number}
use Rattle.vk_version.proofs.laws.numbers_have_one_text.Goals as goal

pub returns : goal.returns
returns c = λ one other p q small same. same_number one other p q (lt-ltb _ _ small) same
