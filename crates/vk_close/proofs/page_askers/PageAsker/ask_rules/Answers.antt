use Rattle.std.proofs.Common.{arith}
use Rattle.vk_close.proofs.page_askers.PageAsker.ask_rules.Goals as goal

pub returns-clause-ticks : goal.returns-clause-ticks
returns-clause-ticks g c = omega (arith, c.consequences.ensures.ticks)
