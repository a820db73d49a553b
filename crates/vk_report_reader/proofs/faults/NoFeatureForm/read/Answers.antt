use Rattle.vk_model.specs.FaultViews.{fault_view}
use Rattle.vk_report_reader.specs.Faults.{no_feature_parts}
use Rattle.vk_report_reader.proofs.FaultForms.{no_feature_parts_are}
use Rattle.vk_forms.proofs.Through.{made_read, none_made}
use Rattle.vk_report_reader.proofs.faults.NoFeatureForm.read.Goals as goal

pub returns-in-Some : goal.returns-in-Some
returns-in-Some c =
    let found = rw c.in-Some.is at c.in_ok-parts.ensures in
    made_read no_feature_parts_are c.args.text.now (no_feature_parts c.in-Some.parts) (fault_view c.no_feature_fault.result) c.no_feature_fault.ensures found

pub returns-in-None : goal.returns-in-None
returns-in-None c = none_made no_feature_parts_are c.args.text.now (rw c.in-None.is at c.in_ok-parts.ensures)
