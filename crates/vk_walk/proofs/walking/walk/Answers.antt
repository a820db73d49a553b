use Rattle.vk_walk.specs.Walked.{walk_limits}
use Rattle.vk_walk.proofs.SeenLemmas.{walked_by}
use Rattle.vk_walk.proofs.walking.walk.Goals as goal

pub returns-clause-is : goal.returns-clause-is
returns-clause-is g c =
    walked_by walk_limits c.args.dir.now c.in_ok-found.found c.in_ok-seen.seen c.in_order_of_texts.result (g.T.Tree.state c.args.tree.now) c.in_ok-found.ensures.is (rw (← c.as_slice.ensures) c.in_ok-seen.ensures) c.in_order_of_texts.ensures.moved c.in_order_of_texts.ensures.order
