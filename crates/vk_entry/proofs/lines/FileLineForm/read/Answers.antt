use Rattle.vk_entry.specs.ContentViews.{content_view}
use Rattle.vk_entry.specs.Readings.{content_parts}
use Rattle.vk_entry.proofs.LineForms.{content_parts_are}
use Rattle.vk_forms.proofs.Through.{made_read, none_made}
use Rattle.vk_entry.proofs.lines.FileLineForm.read.Goals as goal

pub returns-in-Some : goal.returns-in-Some
returns-in-Some c =
    let found = rw c.in-Some.is at c.in_ok-parts.ensures in
    made_read content_parts_are c.args.text.now (content_parts c.in-Some.parts) (content_view c.content_from.result) c.content_from.ensures found

pub returns-in-None : goal.returns-in-None
returns-in-None c = none_made content_parts_are c.args.text.now (rw c.in-None.is at c.in_ok-parts.ensures)
