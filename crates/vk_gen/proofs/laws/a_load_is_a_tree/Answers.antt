use Rattle.vk_gen.proofs.LawLemmas.{load_tree}
use Rattle.vk_gen.proofs.laws.a_load_is_a_tree.Goals as goal

pub returns : goal.returns
returns c = load_tree
