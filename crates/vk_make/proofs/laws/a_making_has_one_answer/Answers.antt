use Rattle.vk_make.proofs.OneMaking.{one_making}
use Rattle.vk_make.proofs.laws.a_making_has_one_answer.Goals as goal

pub returns : goal.returns
returns c = one_making
