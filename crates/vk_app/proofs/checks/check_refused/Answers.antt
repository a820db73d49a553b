use Rattle.vk_model.specs.EarlyViews.{early_view}
use Rattle.vk_app.specs.Resolutions as the
use Rattle.vk_app.proofs.CheckLemmas.{ends_against, ends_unread}
use Rattle.vk_app.proofs.checks.check_refused.Goals as goal

pub returns-in-Ok : goal.returns-in-Ok
returns-in-Ok g c = λ project earlier distinct. rw c.into_tree.ensures (ends_against project c.args.report.now c.in-Ok.bytes (early_view c.args.early) _ earlier _ _ _ distinct
    (rw c.in-Ok.is at c.read_report.ensures.seen) (rw c.in-Ok.is at c.read_report.ensures.reads) (rw c.as_slice.ensures at c.end_against.ensures))

pub returns-in-Err : goal.returns-in-Err
returns-in-Err g c = λ project earlier distinct. rw c.into_tree-in-Err.ensures (ends_unread project c.args.report.now c.in-Err.stop _ _ earlier _ _ _
    (λ files first shows. shows (the.early (early_view c.args.early))) distinct
    (rw c.in-Err.is at c.read_report.ensures.seen) (rw c.in-Err.is at c.read_report.ensures.reads) c.end_of_unread.ensures)
