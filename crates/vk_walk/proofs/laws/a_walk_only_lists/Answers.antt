use Rattle.vk_walk.proofs.WalkAsks.{walk_lists}
use Rattle.vk_walk.proofs.laws.a_walk_only_lists.Goals as goal

pub returns : goal.returns
returns c = walk_lists
