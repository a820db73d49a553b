use Rattle.json.specs.Value.{value_view}
use Rattle.vk_json.proofs.DocumentKeys.{value_ascends}
use Rattle.vk_json.proofs.OptionLemmas.{if_ok}
use Rattle.vk_json.proofs.readers.each_member.Goals as goal

pub returns-in-Some-clause-order : goal.returns-in-Some-clause-order
returns-in-Some-clause-order g c = if_ok c.read_object.result _ (value_ascends (value_view c.args.value.now))
