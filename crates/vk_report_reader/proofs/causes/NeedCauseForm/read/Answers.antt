use Rattle.vk_model.specs.FactViews.{cause_view}
use Rattle.vk_report_reader.specs.Causes.{need_plain}
use Rattle.vk_report_reader.proofs.CauseForms.{need_parts}
use Rattle.vk_forms.proofs.Through.{made_read, none_made}
use Rattle.vk_report_reader.proofs.causes.NeedCauseForm.read.Goals as goal

pub returns-in-Some : goal.returns-in-Some
returns-in-Some c =
    let found = rw c.in-Some.is at c.in_ok-found.ensures in
    made_read need_parts c.args.text.now (need_plain c.in-Some.found) (cause_view c.need_cause.result) c.need_cause.ensures found

pub returns-in-None : goal.returns-in-None
returns-in-None c = none_made need_parts c.args.text.now (rw c.in-None.is at c.in_ok-found.ensures)
