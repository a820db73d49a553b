use Rattle.vk_publish.proofs.SharedPublish.{several_publish}
use Rattle.vk_publish.proofs.laws.a_shared_cache_stays_whole.Goals as goal

pub returns : goal.returns
returns c = several_publish
