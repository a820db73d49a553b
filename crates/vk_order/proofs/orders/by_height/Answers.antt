use Rattle.vk_order.proofs.ArrangingLemmas.{order_places}
use Rattle.vk_order.proofs.orders.by_height.Goals as goal

pub new_places-requires-clause-places : goal.new_places-requires-clause-places
new_places-requires-clause-places c = order_places _ _ _ c.in_ok-order.ensures c.deref.ensures.value
