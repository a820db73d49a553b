use Rattle.std.proofs.lemmas.Result.{err_from_is_err_and}
use Rattle.vk_protocol.proofs.RunLemmas.{can_first, came_end, came_stop, came_lack}
use Rattle.vk_protocol.proofs.machines.run.Goals as goal

pub returns-then-not-asks : goal.returns-then-not-asks
returns-then-not-asks g c =
    came_end (g.M.Machine.means c.args.machine.now) (g.M.Machine.means c.loop.machine) tt (g.T.Tree.state c.args.tree.now) (g.T.Tree.state c.loop.tree) (c.asks.ensures c.if-not-asks.true) c.loop.invariant.0

pub step-requires : goal.step-requires
step-requires g c = can_first (g.M.Machine.means c.loop.machine) (g.T.Tree.state c.loop.tree) c.loop.invariant.1

pub returns-in_err-step : goal.returns-in_err-step
returns-in_err-step g c =
    let p = err_from_is_err_and c.from_residual.result c.from_residual.ensures.1 in
    rw (p.1, p.2) (came_stop (g.M.Machine.means c.args.machine.now) (g.M.Machine.means c.loop.machine) (g.M.Machine.means c.step.new.self) c.in_err-step.field-0.0 (g.T.Tree.state c.args.tree.now) (g.T.Tree.state c.loop.tree) (g.T.Tree.state c.step.new.tree) c.loop.invariant.0 c.in_err-step.ensures)

pub returns : goal.returns
returns g c = came_lack (g.M.Machine.means c.args.machine.now) (g.M.Machine.means c.loop.machine) c.without_allocation.result (g.T.Tree.state c.args.tree.now) (g.T.Tree.state c.loop.tree) c.loop.invariant.0
