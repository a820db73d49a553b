use Rattle.vk_order.proofs.WayLemmas.{reached_there, reached_put}
use Rattle.vk_order.proofs.ways.reach_one.Goals as goal

pub returns-then-is_some : goal.returns-then-is_some
returns-then-is_some c = reached_there _ _ _ _ _ c.is_some.ensures c.if-is_some.true

pub returns : goal.returns
returns c = reached_put _ _ _ _ _ _ c.requires c.is_some.ensures c.if-is_some.false c.in_ok-push.ensures.items
