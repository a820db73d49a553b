use Rattle.vk_forms.proofs.Found.{if_ok_then}
use Rattle.vk_forms.proofs.VersionForms.{bare_read}
use Rattle.vk_forms.proofs.versions.BareVersionForm.read.Goals as goal

pub returns-in-Some : goal.returns-in-Some
returns-in-Some c =
    let text = rw c.in-Some.is at c.in_ok-text.ensures in
    if_ok_then c.found.result (bare_read c.args.text.now c.as_str.result.now (rw c.as_str.ensures text.0) (rw c.as_str.ensures text.1) c.read-in-Some.result c.read-in-Some.ensures) c.found.ensures
