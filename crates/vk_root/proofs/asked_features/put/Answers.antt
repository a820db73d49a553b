use Rattle.vk_root.proofs.GrowthLemmas.{grows_put}
use Rattle.vk_root.proofs.asked_features.put.Goals as goal

pub returns : goal.returns
returns c = grows_put c.args.names.now.keys c.put_key.new.names.keys c.args.name.now c.in_ok-put_key.ensures
