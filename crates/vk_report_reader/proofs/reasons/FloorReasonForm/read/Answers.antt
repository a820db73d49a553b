use Rattle.vk_model.specs.FactViews.{reason_view}
use Rattle.vk_report_reader.specs.Reasons.{floor_parts}
use Rattle.vk_report_reader.proofs.ReasonForms.{floor_parts_are}
use Rattle.vk_forms.proofs.Through.{made_read, none_made}
use Rattle.vk_report_reader.proofs.reasons.FloorReasonForm.read.Goals as goal

pub returns-in-Some : goal.returns-in-Some
returns-in-Some c =
    let found = rw c.in-Some.is at c.in_ok-parts.ensures in
    made_read floor_parts_are c.args.text.now (floor_parts c.in-Some.parts) (reason_view c.floor_reason.result) c.floor_reason.ensures found

pub returns-in-None : goal.returns-in-None
returns-in-None c = none_made floor_parts_are c.args.text.now (rw c.in-None.is at c.in_ok-parts.ensures)
