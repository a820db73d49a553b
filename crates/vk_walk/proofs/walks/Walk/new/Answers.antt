use Rattle.vk_walk.proofs.MachineLemmas.{walk_begins}
use Rattle.vk_walk.proofs.walks.Walk.new.Goals as goal

pub returns : goal.returns
returns c = walk_begins c.fresh.result c.args.folder c.fresh.ensures
