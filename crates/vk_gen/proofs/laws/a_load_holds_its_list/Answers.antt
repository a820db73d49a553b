use Rattle.vk_gen.proofs.LawLemmas.{held}
use Rattle.vk_gen.proofs.laws.a_load_holds_its_list.Goals as goal

pub returns : goal.returns
returns c = held
