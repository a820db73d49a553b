use Rattle.vk_worklist.proofs.ArrangeLemmas.{arranged_then}
use Rattle.vk_worklist.proofs.orders.arrange.Goals as goal

pub loop-start-preserved : goal.loop-start-preserved
loop-start-preserved c = arranged_then c.args.settled c.args.lines.now.entries c.loop-start.lines.entries c.follow.new.lines.entries c.loop-start.invariant c.follow.ensures
