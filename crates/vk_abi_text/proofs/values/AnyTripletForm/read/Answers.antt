use Rattle.std.specs.Prelude.{option_map}
use Rattle.vk_forms.proofs.Found.{if_ok_then}
use Rattle.vk_abi_text.specs.Forms.{triplet_parts}
use Rattle.vk_abi_text.proofs.FormLemmas.{triplet_read}
use Rattle.vk_abi_text.proofs.values.AnyTripletForm.read.Goals as goal

pub returns : goal.returns
returns c = if_ok_then c.read.result (λ found read. triplet_read c.args.text.now (option_map triplet_parts found) read) c.read.ensures
