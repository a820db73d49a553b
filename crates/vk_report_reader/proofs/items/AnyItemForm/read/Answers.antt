use Rattle.vk_model.specs.FaultViews.{item_view}
use Rattle.vk_report_reader.specs.Items.{item_parts}
use Rattle.vk_report_reader.proofs.ItemForms.{item_parts_are}
use Rattle.vk_forms.proofs.Through.{made_read, none_made}
use Rattle.vk_report_reader.proofs.items.AnyItemForm.read.Goals as goal

pub returns-in-Some : goal.returns-in-Some
returns-in-Some c =
    let found = rw c.in-Some.is at c.in_ok-parts.ensures in
    made_read item_parts_are c.args.text.now (item_parts c.in-Some.parts) (item_view c.item_of.result) c.item_of.ensures found

pub returns-in-None : goal.returns-in-None
returns-in-None c = none_made item_parts_are c.args.text.now (rw c.in-None.is at c.in_ok-parts.ensures)
