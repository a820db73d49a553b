use Rattle.std.proofs.lemmas.Result.{err_from_is_err_and}
use Rattle.vk_walk.proofs.MachineLemmas.{first_lacked, first_stepped, first_stopped}
use Rattle.vk_walk.proofs.walks.Walk.begin.Goals as goal

pub returns-in_err-reply-clause-next : goal.returns-in_err-reply-clause-next
returns-in_err-reply-clause-next g c =
    let p = err_from_is_err_and c.from_residual.result c.from_residual.ensures.1 in
    rw (p.1, p.2) (first_stopped c.args.folder.now c.in_err-reply.field-0.0 (g.T.Tree.state c.args.tree.now) (g.T.Tree.state c.list.new.tree) c.in_err-reply.ensures.asked)

pub returns-in_err-walk-clause-next : goal.returns-in_err-walk-clause-next
returns-in_err-walk-clause-next g c =
    let p = err_from_is_err_and c.from_residual-in_err-walk.result c.from_residual-in_err-walk.ensures.1 in
    rw (p.1, p.2) (first_lacked c.args.folder.now c.in_ok-reply.reply c.in_err-walk.field-0.0 (g.T.Tree.state c.args.tree.now) (g.T.Tree.state c.list.new.tree) c.in_ok-reply.ensures.asked)

pub returns-clause-next : goal.returns-clause-next
returns-clause-next g c = first_stepped c.fresh-walk.result _ c.args.folder.now c.in_ok-reply.reply (g.T.Tree.state c.args.tree.now) (g.T.Tree.state c.list.new.tree) c.fresh-walk.ensures c.in_ok-reply.ensures.asked c.in_ok-walk.ensures
