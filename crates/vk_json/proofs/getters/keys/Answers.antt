use Rattle.json.specs.Value.{value_view}
use Rattle.vk_json.proofs.DocumentKeys.{value_ascends}
use Rattle.vk_json.proofs.getters.keys.Goals as goal

pub returns-in_ok-names_of-in-Some-clause-order : goal.returns-in_ok-names_of-in-Some-clause-order
returns-in_ok-names_of-in-Some-clause-order c = value_ascends (value_view c.args.value.now)
