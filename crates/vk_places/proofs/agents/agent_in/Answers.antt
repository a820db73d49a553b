use Rattle.std.proofs.Common.{◌∙◌, ap}
use Rattle.vk_base.specs.Paths.{is_part}
use Rattle.vk_places.proofs.PlaceLemmas.{agent_part}
use Rattle.vk_places.proofs.agents.agent_in.Goals as goal

pub child-requires : goal.child-requires
child-requires c = ap is_part (c.as_str.ensures.value ∙ c.in_ok-name.ensures) ∙ agent_part c.args.agent.now c.args.number c.requires
