use Rattle.vk_forms.proofs.Through.{none_made}
use Rattle.vk_abi_text.proofs.FormLemmas.{file_parts_are}
use Rattle.vk_abi_text.proofs.values.AnyFileForm.read.Goals as goal

pub returns-in-None : goal.returns-in-None
returns-in-None c = none_made file_parts_are c.args.text.now (rw c.in-None.is at c.in_ok-path.ensures)
