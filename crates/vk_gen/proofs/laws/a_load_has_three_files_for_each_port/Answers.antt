use Rattle.vk_gen.proofs.LawLemmas.{counted}
use Rattle.vk_gen.proofs.laws.a_load_has_three_files_for_each_port.Goals as goal

pub returns : goal.returns
returns c = counted
