use Rattle.vk_tree.proofs.PartLemmas.{one_taken}
use Rattle.vk_tree.proofs.listing.parts_after.Goals as goal

pub loop-preserved : goal.loop-preserved
loop-preserved c = one_taken (λ part. part.now) c.next.result c.loop.left c.next.new.self c.args.parts c.loop.counter c.loop.invariant c.next.ensures
