use Rattle.vk_gather.proofs.GatherTells.{gather_tells}
use Rattle.vk_gather.proofs.laws.a_gathering_tells_the_files.Goals as goal

pub returns : goal.returns
returns c = gather_tells
