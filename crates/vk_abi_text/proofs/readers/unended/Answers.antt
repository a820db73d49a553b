use Rattle.vk_abi_text.specs.Adding.{gathering_view}
use Rattle.vk_abi_text.proofs.ReadLemmas.{not_a_line}
use Rattle.vk_abi_text.proofs.readers.unended.Goals as goal

pub returns-in_default : goal.returns-in_default
returns-in_default c = not_a_line c.args.last.now c.args.left.now (gathering_view c.args.gathering.now) c.args.number c.in_default.ensures
