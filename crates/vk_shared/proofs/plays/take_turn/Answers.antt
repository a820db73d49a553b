use Rattle.std.proofs.Common.{sym, ◌∙◌}
use Rattle.vk_shared.proofs.PlayStages.{call_takes}
use Rattle.vk_shared.proofs.plays.take_turn.Goals as goal

pub returns-in-Calls-clause-takes : goal.returns-in-Calls-clause-takes
returns-in-Calls-clause-takes g c = call_takes _ _ _ _ _ _ _ (sym c.state.ensures ∙ c.in-Calls.is) (c.call.ensures _) c.serve.ensures.left
