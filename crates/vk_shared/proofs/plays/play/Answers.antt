use Rattle.std.proofs.lemmas.List.{drop_more}
use Rattle.vk_shared.proofs.PlayLaws.{done_is_whole, end_is_whole, play_goes, play_may, play_starts}
use Rattle.vk_shared.proofs.plays.play.Goals as goal

pub loop-who-init : goal.loop-who-init
loop-who-init g c = play_starts _ _ _ _

pub play_turn-requires-clause-may : goal.play_turn-requires-clause-may
play_turn-requires-clause-may g c = play_may _ _ _ _ _ _ (g.T.Tree.state c.loop-who.tree) _ c.requires.may c.loop-who.invariant

pub returns-in_err-play_turn-clause-whole : goal.returns-in_err-play_turn-clause-whole
returns-in_err-play_turn-clause-whole g c = end_is_whole _ _ _ _ _ _ (g.T.Tree.state c.loop-who.tree) _ _ _ (g.T.Tree.state c.play_turn.new.tree) c.play_turn.ensures c.loop-who.invariant

pub loop-who-preserved : goal.loop-who-preserved
loop-who-preserved g c = play_goes _ _ _ _ _ _ (g.T.Tree.state c.loop-who.tree) _ _ _ _ _ (g.T.Tree.state c.play_turn.new.tree) (drop_more _ _ _ c.loop-who-test.true) c.play_turn.auto.all c.in_ok-play_turn.was c.play_turn.ensures c.loop-who.invariant

pub returns-clause-whole : goal.returns-clause-whole
returns-clause-whole g c = done_is_whole _ _ _ _ _ _ (g.T.Tree.state c.loop-who.tree) c.loop-who.invariant
