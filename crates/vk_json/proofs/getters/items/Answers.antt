use Rattle.vk_json.proofs.ValueLemmas.{items_seen}
use Rattle.vk_json.proofs.getters.items.Goals as goal

pub returns-in-Array : goal.returns-in-Array
returns-in-Array c = items_seen c.args.value.now c.in-Array.list c.as_slice.ensures.value c.in-Array.is
