use Rattle.vk_model.specs.FaultViews.{fault_view}
use Rattle.vk_report_reader.specs.Faults.{no_version_parts}
use Rattle.vk_report_reader.proofs.FaultForms.{no_version_parts_are}
use Rattle.vk_forms.proofs.Through.{made_read, none_made}
use Rattle.vk_report_reader.proofs.faults.NoVersionForm.read.Goals as goal

pub returns-in-Some : goal.returns-in-Some
returns-in-Some c =
    let found = rw c.in-Some.is at c.in_ok-parts.ensures in
    made_read no_version_parts_are c.args.text.now (no_version_parts c.in-Some.parts) (fault_view c.no_version_fault.result) c.no_version_fault.ensures found

pub returns-in-None : goal.returns-in-None
returns-in-None c = none_made no_version_parts_are c.args.text.now (rw c.in-None.is at c.in_ok-parts.ensures)
