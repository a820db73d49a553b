use Rattle.vk_abi_text.specs.Forms.{line_parts, line_view}
use Rattle.vk_abi_text.specs.Rights.{IsReadableLine}
use Rattle.vk_forms.proofs.Through.{made_read, none_made}
use Rattle.vk_abi_text.proofs.LineParts.{line_parts_are}
use Rattle.vk_abi_text.proofs.kinds.AnyLineForm.read.Goals as goal

pub returns-in-Some : goal.returns-in-Some
returns-in-Some c =
    let found = rw c.in-Some.is at c.in_ok-parts.ensures in
    made_read (line_parts_are IsReadableLine) c.args.text.now (line_parts c.in-Some.parts) (line_view c.line_of.result) c.line_of.ensures found

pub returns-in-None : goal.returns-in-None
returns-in-None c = none_made (line_parts_are IsReadableLine) c.args.text.now (rw c.in-None.is at c.in_ok-parts.ensures)
