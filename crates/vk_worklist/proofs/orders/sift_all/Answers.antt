use Rattle.vk_worklist.proofs.ArrangeLemmas.{arranged_then}
use Rattle.vk_worklist.proofs.orders.sift_all.Goals as goal

pub loop-at-preserved : goal.loop-at-preserved
loop-at-preserved c = record {
  arranged = arranged_then c.args.settled c.args.lines.now.entries c.loop-at.lines.entries c.sift.new.lines.entries c.loop-at.invariant.arranged c.sift.ensures.arranged;
  order = c.sift.ensures.order;
}
