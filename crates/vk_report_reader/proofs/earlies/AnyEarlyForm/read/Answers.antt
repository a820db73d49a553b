use Rattle.vk_model.specs.EarlyViews.{early_view}
use Rattle.vk_report_reader.specs.Earlies.{early_parts}
use Rattle.vk_report_reader.proofs.EarlyForms.{early_parts_are}
use Rattle.vk_forms.proofs.Through.{made_read, none_made}
use Rattle.vk_report_reader.proofs.earlies.AnyEarlyForm.read.Goals as goal

pub returns-in-Some : goal.returns-in-Some
returns-in-Some c =
    let found = rw c.in-Some.is at c.in_ok-parts.ensures in
    made_read early_parts_are c.args.text.now (early_parts c.in-Some.parts) (early_view c.early_of.result) c.early_of.ensures found

pub returns-in-None : goal.returns-in-None
returns-in-None c = none_made early_parts_are c.args.text.now (rw c.in-None.is at c.in_ok-parts.ensures)
