use Rattle.vk_base.specs.Names.{port_rule}
use Rattle.vk_forms.proofs.Found.{if_ok_then}
use Rattle.vk_forms.proofs.NameForms.{names_read}
use Rattle.vk_forms.proofs.names.PortForm.read.Goals as goal

pub returns : goal.returns
returns c = if_ok_then c.found.result (names_read port_rule (λ n. n) c.args.text.now c.read.result c.read.ensures) c.found.ensures
