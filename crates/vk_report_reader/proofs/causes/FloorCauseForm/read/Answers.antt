use Rattle.vk_model.specs.FactViews.{cause_view}
use Rattle.vk_report_reader.specs.Causes.{floor_plain}
use Rattle.vk_report_reader.proofs.CauseForms.{floor_parts}
use Rattle.vk_forms.proofs.Through.{made_read, none_made}
use Rattle.vk_report_reader.proofs.causes.FloorCauseForm.read.Goals as goal

pub returns-in-Some : goal.returns-in-Some
returns-in-Some c =
    let found = rw c.in-Some.is at c.in_ok-found.ensures in
    made_read floor_parts c.args.text.now (floor_plain c.in-Some.found) (cause_view c.floor_cause.result) c.floor_cause.ensures found

pub returns-in-None : goal.returns-in-None
returns-in-None c = none_made floor_parts c.args.text.now (rw c.in-None.is at c.in_ok-found.ensures)
