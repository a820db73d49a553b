use Rattle.vk_gather.proofs.SeenSteps.{seen_by, follow_by}
use Rattle.vk_gather.proofs.seen.seen_in.Goals as goal

pub returns-clause-seen : goal.returns-clause-seen
returns-clause-seen c = seen_by c.args.folder.now c.args.found.now c.in_ok-seen.seen c.in_order_of_texts.result c.turned.result c.in_ok-seen.ensures c.in_order_of_texts.ensures.moved c.in_order_of_texts.ensures.order c.turned.ensures.once c.turned.ensures.paths

pub returns-clause-follow : goal.returns-clause-follow
returns-clause-follow c = follow_by c.args.folder.now c.args.found.now c.in_ok-seen.seen c.in_order_of_texts.result c.turned.result c.in_ok-seen.ensures c.in_order_of_texts.ensures.moved c.in_order_of_texts.ensures.order c.turned.ensures.once c.turned.ensures.paths
