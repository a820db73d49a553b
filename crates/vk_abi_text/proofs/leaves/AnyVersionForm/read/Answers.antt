use Rattle.std.specs.Prelude.{option_map}
use Rattle.vk_version.specs.Views.{class_view}
use Rattle.vk_forms.proofs.Found.{if_ok_then}
use Rattle.vk_abi_text.proofs.FormLemmas.{no_version, read_mapped, version_made}
use Rattle.vk_abi_text.proofs.leaves.AnyVersionForm.read.Goals as goal

pub returns-in-Some : goal.returns-in-Some
returns-in-Some c =
    let parts = rw c.in-Some.is at c.in_ok-class.ensures in
    if_ok_then c.version_of.result
    (λ found read. version_made c.args.text.now (class_view c.in-Some.class, (c.in-Some.text, c.in-Some.port)) parts (option_map (λ v. v) found) (read_mapped (class_view c.in-Some.class) c.in-Some.text c.in-Some.port found (rw c.as_str.ensures at read))) c.version_of.ensures

pub returns-in-None : goal.returns-in-None
returns-in-None c = no_version c.args.text.now (rw c.in-None.is at c.in_ok-class.ensures)
