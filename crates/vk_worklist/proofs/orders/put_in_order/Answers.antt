use Rattle.vk_worklist.proofs.ArrangeLemmas.{put_by_two}
use Rattle.vk_worklist.proofs.orders.put_in_order.Goals as goal

pub returns : goal.returns
returns c = put_by_two c.args.settled c.args.lines.now.entries c.arrange.new.lines.entries c.sift_all.new.lines.entries c.in_ok-arrange.ensures c.sift_all.ensures.arranged c.sift_all.ensures.order
