use Rattle.vk_order.proofs.ArrangingLemmas.{places_viewed, told_cycle}
use Rattle.vk_order.proofs.orders.plan_order.Goals as goal

pub arrange-requires-clause-places : goal.arrange-requires-clause-places
arrange-requires-clause-places c = rw c.as_slice.ensures (places_viewed _ c.requires.items)

pub returns-in-Ok-Cycle-clause-cycle : goal.returns-in-Ok-Cycle-clause-cycle
returns-in-Ok-Cycle-clause-cycle c = told_cycle _ c.requires.items _ (rw (c.in-Ok-Cycle.field-0-is, c.as_slice.ensures) at c.in-Ok-Cycle.ensures)
