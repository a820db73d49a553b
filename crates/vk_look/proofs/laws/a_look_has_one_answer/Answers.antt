use Rattle.vk_look.proofs.OneAnswer.{one_answer}
use Rattle.vk_look.proofs.laws.a_look_has_one_answer.Goals as goal

pub returns : goal.returns
returns c = one_answer
