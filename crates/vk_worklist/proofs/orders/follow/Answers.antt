use Rattle.vk_worklist.proofs.ArrangeLemmas.{arranged_then}
use Rattle.vk_worklist.proofs.orders.follow.Goals as goal

pub loop-preserved : goal.loop-preserved
loop-preserved c = arranged_then c.args.settled c.args.lines.now.entries c.loop.lines.entries c.exchange.new.lines.entries c.loop.invariant c.exchange.ensures
