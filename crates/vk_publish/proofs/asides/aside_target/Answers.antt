use Rattle.std.proofs.lemmas.Result.{err_from_is_err_and}
use Rattle.vk_publish.specs.AsideMachine.{aside_means}
use Rattle.vk_publish.proofs.AsideSteps.{can_begin, ran_begun, stop_begun}
use Rattle.vk_publish.proofs.asides.aside_target.Goals as goal

pub run-requires : goal.run-requires
run-requires g c = can_begin c.args.target (g.T.Tree.state c.args.tree.now) c.requires

pub returns-in_err-run : goal.returns-in_err-run
returns-in_err-run g c =
    let p = err_from_is_err_and c.from_residual.result c.from_residual.ensures.1 in
    stop_begun c.args.target (aside_means c.run.new.machine) c.from_residual.result p.0 c.in_err-run.field-0.0 (g.T.Tree.state c.args.tree.now) (g.T.Tree.state c.run.new.tree) p.1 p.2 c.in_err-run.ensures

pub returns : goal.returns
returns g c = ran_begun c.args.target (aside_means c.run.new.machine) c.came_to.result tt (g.T.Tree.state c.args.tree.now) (g.T.Tree.state c.run.new.tree) c.came_to.ensures c.in_ok-run.ensures
