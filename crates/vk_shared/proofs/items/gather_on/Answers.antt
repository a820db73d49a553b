use Rattle.vk_gather.proofs.GatherCan.{gather_can}
use Rattle.vk_shared.proofs.items.gather_on.Goals as goal

pub step-requires : goal.step-requires
step-requires g c = gather_can c.args.gathering (g.T.Tree.state c.args.tree.now)
