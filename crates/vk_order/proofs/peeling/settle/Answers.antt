use Rattle.std.proofs.Common.{sym, arith}
use Rattle.vk_order.proofs.NumberLemmas.{below_at, needs_long}
use Rattle.vk_order.proofs.PeelingLemmas.{settled_right, height_fits}
use Rattle.vk_order.proofs.peeling.settle.Goals as goal

pub height_above-requires-clause-places : goal.height_above-requires-clause-places
height_above-requires-clause-places c = below_at _ _ _ _ c.needs_at.ensures c.requires.places (sym c.requires.right.long)

pub height_above-requires-clause-few : goal.height_above-requires-clause-few
height_above-requires-clause-few c n h known = omega (arith, needs_long c.args.items.now, height_fits _ _ c.requires.right n h known)

pub returns-clause-right : goal.returns-clause-right
returns-clause-right c = settled_right _ _ _ _ _ _ (omega (arith, needs_long c.args.items.now)) c.is_some.ensures c.if-is_some.false c.needs_at.ensures c.in-Some.ensures c.requires.right
