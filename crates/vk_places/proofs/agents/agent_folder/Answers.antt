use Rattle.std.proofs.Common.{◌≡◌, ◌∙◌, string_bytes, arith}
use Rattle.std.proofs.lemmas.Grind.{common_steps}
use Rattle.vk_places.proofs.PlaceLemmas.{printed, printed_name}
use Rattle.vk_places.proofs.agents.agent_folder.Goals as goal

pub returns : goal.returns
returns c = (let is : string_bytes c.in_ok-format.field-0 ≡ printed c.args.agent.now c.args.number = grind (arith, common_steps) in is ∙ printed_name c.args.agent.now c.args.number)
