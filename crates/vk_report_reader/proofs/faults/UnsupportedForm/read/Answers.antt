use Rattle.vk_model.specs.FaultViews.{fault_view}
use Rattle.vk_report_reader.specs.Faults.{unsupported_parts}
use Rattle.vk_report_reader.proofs.FaultForms.{unsupported_parts_are}
use Rattle.vk_forms.proofs.Through.{made_read, none_made}
use Rattle.vk_report_reader.proofs.faults.UnsupportedForm.read.Goals as goal

pub returns-in-Some : goal.returns-in-Some
returns-in-Some c =
    let found = rw c.in-Some.is at c.in_ok-parts.ensures in
    made_read unsupported_parts_are c.args.text.now (unsupported_parts c.in-Some.parts) (fault_view c.unsupported_fault.result) c.unsupported_fault.ensures found

pub returns-in-None : goal.returns-in-None
returns-in-None c = none_made unsupported_parts_are c.args.text.now (rw c.in-None.is at c.in_ok-parts.ensures)
