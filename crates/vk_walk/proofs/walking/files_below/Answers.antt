use Rattle.vk_walk.proofs.MachineLemmas.{begun_can}
use Rattle.vk_walk.proofs.walking.files_below.Goals as goal

pub run-requires : goal.run-requires
run-requires g c = begun_can c.in_ok-walk.walk c.args.folder.now (g.T.Tree.state c.args.tree.now) (g.T.Tree.state c.begin.new.tree) c.in_ok-walk.ensures.next
