use Rattle.vk_model.specs.SettingViews.{setting_view}
use Rattle.vk_opening.specs.Views.{layout_view}
use Rattle.vk_app.proofs.CheckLemmas.{check_ends, ends_unread, settles_unread}
use Rattle.vk_app.proofs.checks.check_on.Goals as goal

pub returns-in-Ok : goal.returns-in-Ok
returns-in-Ok g c = λ distinct. check_ends c.args.checked.project.now c.args.checked.report.now c.in-Ok.bytes (setting_view c.args.setting.now) (layout_view c.args.layout) _ _ _ _ _ _
    (rw c.in-Ok.is at c.read_report.ensures.seen) (rw c.in-Ok.is at c.read_report.ensures.reads) (rw (c.as_slice.ensures, c.read_report.ensures.kept) at c.judge_on.ensures)

pub returns-in-Err : goal.returns-in-Err
returns-in-Err g c = λ distinct. rw c.into_tree.ensures (ends_unread c.args.checked.project.now c.args.checked.report.now c.in-Err.stop _ _ _ _ _ _
    (λ files first shows. settles_unread c.args.checked.project.now c.args.checked.report.now (setting_view c.args.setting.now) (layout_view c.args.layout) files first shows) distinct
    (rw c.in-Err.is at c.read_report.ensures.seen) (rw c.in-Err.is at c.read_report.ensures.reads) c.end_of_unread.ensures)
