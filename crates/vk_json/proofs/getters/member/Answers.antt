use Rattle.vk_json.proofs.ValueLemmas.{found_member}
use Rattle.vk_json.proofs.getters.member.Goals as goal

pub returns : goal.returns
returns c = found_member c.args.key.now c.args.value.now c.get.result c.get.ensures
