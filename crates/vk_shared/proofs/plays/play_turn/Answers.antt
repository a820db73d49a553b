use Rattle.vk_shared.proofs.PlayLists.{may_take, turn_is}
use Rattle.vk_shared.proofs.plays.play_turn.Goals as goal

pub take_turn-requires : goal.take_turn-requires
take_turn-requires g c = may_take _ _ _ _ _ (g.T.Tree.state c.args.tree.now) c.requires.within c.packages_of.ensures c.requires.may

pub returns : goal.returns
returns g c = turn_is _ _ _ _ _ _ _ (g.T.Tree.state c.args.tree.now) (g.T.Tree.state c.take_turn.new.tree) c.requires.within c.packages_of.ensures c.take_turn.ensures.takes c.take_turn.ensures.served
