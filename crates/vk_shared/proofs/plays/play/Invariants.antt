use Rattle.std.proofs.Common.{drop}
use Rattle.vk_shared.proofs.PlayLaws.{PlayedSoFar}
use Rattle.vk_shared.proofs.plays.play.Given as goal

abbrev pub invariant-loop-who : goal.invariant-loop-who
invariant-loop-who g l = PlayedSoFar l.meant l.order l.initial.all (g.T.Tree.state l.initial.tree) (drop l.who-index l.order) l.all (g.T.Tree.state l.tree)
