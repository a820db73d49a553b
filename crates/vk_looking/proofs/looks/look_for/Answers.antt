use Rattle.vk_looking.specs.LookMachine.{look_means, wanted_view}
use Rattle.vk_looking.proofs.LookSteps.{look_can}
use Rattle.vk_looking.proofs.looks.look_for.Goals as goal

pub run-requires : goal.run-requires
run-requires g c = look_can (wanted_view c.args.wanted) (look_means c.new-look.result) (g.T.Tree.state c.args.tree.now) c.new-look.ensures
