use Rattle.vk_order.proofs.ArrangingLemmas.{moved_below, moved_places, moved_ordered}
use Rattle.vk_order.proofs.orders.moved.Goals as goal

pub renumber_all-requires : goal.renumber_all-requires
renumber_all-requires c = moved_below _ _ _ _ c.requires.items c.requires.order c.deref_mut.ensures.value

pub arranged-requires-clause-places : goal.arranged-requires-clause-places
arranged-requires-clause-places c = moved_places _ _ _ _ c.requires.items c.requires.order c.deref_mut.ensures.value _ _ _ c.deref_mut.ensures.len c.in_ok-renumber_all.ensures

pub returns : goal.returns
returns c = moved_ordered _ _ _ _ c.requires.items c.requires.order c.deref_mut.ensures.value _ _ _ c.deref_mut.ensures.len c.in_ok-renumber_all.ensures _ _ c.in_ok-arranged.ensures c.from_vec.ensures
