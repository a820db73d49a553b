use Rattle.std.proofs.lemmas.Result.{err_from_is_err_and}
use Rattle.vk_walk.proofs.FoundLemmas.{answer_lists, answer_tells, stop_lists}
use Rattle.vk_walk.proofs.walking.walk_in_order.Goals as goal

pub returns-in_err-found-clause-reads : goal.returns-in_err-found-clause-reads
returns-in_err-found-clause-reads g c =
    let p = err_from_is_err_and c.from_residual.result c.from_residual.ensures.1 in
    rw (p.1, p.2) (stop_lists c.args.folder.now c.in_err-found.field-0.0 (g.T.Tree.state c.args.tree.now) (g.T.Tree.state c.files_below.new.tree) c.in_err-found.ensures.ran)

pub returns-clause-is : goal.returns-clause-is
returns-clause-is g c = rw (c.answered.ensures) (answer_tells c.args.folder.now c.in_ok-found.found (g.T.Tree.state c.args.tree.now) (g.T.Tree.state c.files_below.new.tree) c.in_ok-found.ensures.ran)

pub returns-clause-reads : goal.returns-clause-reads
returns-clause-reads g c = rw (c.answered.ensures) (answer_lists c.args.folder.now c.in_ok-found.found (g.T.Tree.state c.args.tree.now) (g.T.Tree.state c.files_below.new.tree) c.in_ok-found.ensures.ran)
