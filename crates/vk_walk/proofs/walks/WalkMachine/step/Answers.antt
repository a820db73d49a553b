use Rattle.std.proofs.Common.{◌∙◌, sym}
use Rattle.std.proofs.lemmas.Result.{err_from_is_err_and}
use Rattle.vk_walk.proofs.MachineLemmas.{walk_stepped, walk_stopped, walk_lacked}
use Rattle.vk_walk.proofs.walks.WalkMachine.step.Goals as goal

pub returns-in_ok-self-in-Lists : goal.returns-in_ok-self-in-Lists
returns-in_ok-self-in-Lists g c = walk_stepped c.args.self.now _ c.in-Lists.path c.in-Lists.left c.in_ok-reply-in-Lists.reply tt (g.T.Tree.state c.args.tree.now) (g.T.Tree.state c.list.new.tree) (sym c.in-Lists.is ∙ c.replace.ensures.value) c.in_ok-reply-in-Lists.ensures.asked c.in_ok-self-in-Lists.ensures

pub returns-in_err-reply-in-Lists : goal.returns-in_err-reply-in-Lists
returns-in_err-reply-in-Lists g c =
    let p = err_from_is_err_and c.from_residual.result c.from_residual.ensures.1 in
    rw (p.1, p.2) (walk_stopped c.args.self.now _ c.in-Lists.path c.in-Lists.left c.in_err-reply-in-Lists.field-0.0 (g.T.Tree.state c.args.tree.now) (g.T.Tree.state c.list.new.tree) (sym c.in-Lists.is ∙ c.replace.ensures.value) c.in_err-reply-in-Lists.ensures.asked)

pub returns-in_err-self-in-Lists : goal.returns-in_err-self-in-Lists
returns-in_err-self-in-Lists g c =
    let p = err_from_is_err_and c.from_residual-in_err-self-in-Lists.result c.from_residual-in_err-self-in-Lists.ensures.1 in
    rw (p.1, p.2) (walk_lacked c.args.self.now _ c.in-Lists.path c.in-Lists.left c.in_ok-reply-in-Lists.reply c.in_err-self-in-Lists.field-0.0 (g.T.Tree.state c.args.tree.now) (g.T.Tree.state c.list.new.tree) (sym c.in-Lists.is ∙ c.replace.ensures.value) c.in_ok-reply-in-Lists.ensures.asked)
