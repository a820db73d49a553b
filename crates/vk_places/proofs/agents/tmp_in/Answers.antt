use Rattle.std.specs.Prelude.{codes}
use Rattle.vk_places.specs.Places.{agent_name}
use Rattle.vk_places.proofs.PlaceLemmas.{in_folder}
use Rattle.vk_places.proofs.agents.tmp_in.Goals as goal

pub returns : goal.returns
returns c = in_folder c.args.cache.now c.in_ok-folder.folder (codes "tmp") (agent_name c.args.agent.now c.args.number) c.agent_in.result c.in_ok-folder.ensures c.agent_in.ensures
