use Rattle.vk_model.specs.FactViews.{reason_view}
use Rattle.vk_report_reader.specs.Reasons.{visit_parts}
use Rattle.vk_report_reader.proofs.ReasonForms.{visit_parts_are}
use Rattle.vk_forms.proofs.Through.{made_read, none_made}
use Rattle.vk_report_reader.proofs.reasons.VisitReasonForm.read.Goals as goal

pub returns-in-Some : goal.returns-in-Some
returns-in-Some c =
    let found = rw c.in-Some.is at c.in_ok-parts.ensures in
    made_read visit_parts_are c.args.text.now (visit_parts c.in-Some.parts) (reason_view c.visit_reason.result) c.visit_reason.ensures found

pub returns-in-None : goal.returns-in-None
returns-in-None c = none_made visit_parts_are c.args.text.now (rw c.in-None.is at c.in_ok-parts.ensures)
