use Rattle.vk_walk.proofs.MachineLemmas.{walk_can}
use Rattle.vk_gather.proofs.walked.walk_on.Goals as goal

pub step-requires : goal.step-requires
step-requires g c = walk_can c.args.walk (g.T.Tree.state c.args.tree.now)
