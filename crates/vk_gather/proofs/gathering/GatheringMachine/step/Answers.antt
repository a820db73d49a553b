use Rattle.std.proofs.lemmas.Result.{err_from_is_err_and}
use Rattle.vk_gather.proofs.GatherSteps.{gather_stepped, gather_stopped}
use Rattle.vk_gather.proofs.gathering.GatheringMachine.step.Goals as goal

pub returns-in_err-next : goal.returns-in_err-next
returns-in_err-next g c =
    let p = err_from_is_err_and c.from_residual.result c.from_residual.ensures.1 in
    rw (p.1, p.2) (gather_stopped c.args.self.now _ c.replace-at.result c.in_err-next.field-0.0 (g.T.Tree.state c.args.tree.now) (g.T.Tree.state c.next.new.tree) c.replace-at.ensures.value c.in_err-next.ensures)

pub returns : goal.returns
returns g c = rw c.replace.ensures.after (gather_stepped c.args.self.now c.replace-at.result c.in_ok-next.next tt (g.T.Tree.state c.args.tree.now) (g.T.Tree.state c.next.new.tree) c.replace-at.ensures.value c.in_ok-next.ensures)
