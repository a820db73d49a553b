use Rattle.vk_model.specs.FactViews.{reason_view}
use Rattle.vk_report_reader.specs.Reasons.{need_parts}
use Rattle.vk_report_reader.proofs.ReasonForms.{need_parts_are}
use Rattle.vk_forms.proofs.Through.{made_read, none_made}
use Rattle.vk_report_reader.proofs.reasons.NeedReasonForm.read.Goals as goal

pub returns-in-Some : goal.returns-in-Some
returns-in-Some c =
    let found = rw c.in-Some.is at c.in_ok-parts.ensures in
    made_read need_parts_are c.args.text.now (need_parts c.in-Some.parts) (reason_view c.need_reason.result) c.need_reason.ensures found

pub returns-in-None : goal.returns-in-None
returns-in-None c = none_made need_parts_are c.args.text.now (rw c.in-None.is at c.in_ok-parts.ensures)
