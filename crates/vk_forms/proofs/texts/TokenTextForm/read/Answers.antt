use Rattle.vk_forms.proofs.Found.{if_ok_then}
use Rattle.vk_forms.proofs.TextForms.{no_text, text_read}
use Rattle.vk_forms.proofs.texts.TokenTextForm.read.Goals as goal

pub returns-in_default : goal.returns-in_default
returns-in_default c = no_text c.args.text.now (rw c.in_default.is at c.in_ok-bytes.ensures)

pub returns : goal.returns
returns c =
    let is = rw c.in-Some.is at c.in_ok-bytes.ensures in
    if_ok_then c.text_of.result (text_read c.args.text.now c.as_slice.result.now c.text_of.ensures.bytes (rw c.as_slice.ensures is)) c.text_of.ensures.text
