use Rattle.vk_gather.proofs.OneGathering.{gather_one}
use Rattle.vk_gather.proofs.laws.a_gathering_has_one_answer.Goals as goal

pub returns : goal.returns
returns c = gather_one
