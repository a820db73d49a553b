use Rattle.vk_worklist.proofs.MapLemmas.{found_contains, contains_found}
use Rattle.vk_worklist.proofs.notes.has.Goals as goal

pub returns : goal.returns
returns c = rw c.contains_key.ensures (found_contains c.args.fact.now c.args.map.now.entries, contains_found c.args.fact.now c.args.map.now.entries)
