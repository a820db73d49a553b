use Rattle.vk_files.specs.Views.{held}
use Rattle.vk_app.proofs.DoneLemmas.{ends_opened, ends_unopened, opened_right}
use Rattle.vk_app.proofs.tasks.done_over.Goals as goal

pub returns-in-Ok : goal.returns-in-Ok
returns-in-Ok g c =
    rw (← c.new-archive.ensures.tree)
    (ends_opened c.args.task.now c.in-Ok.opened _ (held g.T.Tree.state c.new-archive.result) (held g.T.Tree.state c.open-opened.new.archive) _ c.new-archive.ensures.kept
    (rw (c.project.ensures, c.in-Ok.is) at c.open-opened.ensures) (c.done_opened.ensures c.known.ensures.distinct))

pub returns-in-Err : goal.returns-in-Err
returns-in-Err g c =
    rw (← c.new-archive.ensures.tree, c.into_tree.ensures)
    (ends_unopened c.args.task.now c.in-Err.outage _ (held g.T.Tree.state c.new-archive.result) (held g.T.Tree.state c.open-opened.new.archive) c.new-archive.ensures.kept c.known.ensures.distinct
    (rw (c.project.ensures, c.in-Err.is) at c.open-opened.ensures) c.end_of_outage.ensures)

pub done_opened-requires : goal.done_opened-requires
done_opened-requires g c = opened_right _ c.in-Ok.opened (held g.T.Tree.state c.new-archive.result) (held g.T.Tree.state c.open-opened.new.archive) (rw (c.project.ensures, c.in-Ok.is) at c.open-opened.ensures)
