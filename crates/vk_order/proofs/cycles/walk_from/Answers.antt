use Rattle.std.proofs.Common.{[], ◌∷◌, ◌++◌, sym, ◌∙◌, ap}
use Rattle.vk_order.proofs.NumberLemmas.{below_at}
use Rattle.vk_order.proofs.WalkLemmas.{way_there, falls_there, walk_there}
use Rattle.vk_order.proofs.cycles.walk_from.Goals as goal

pub next_of-next-requires-clause-places : goal.next_of-next-requires-clause-places
next_of-next-requires-clause-places c = below_at _ _ _ _ c.needs_at.ensures c.requires.places (sym c.requires.lengths.long)

pub next_of-next-requires-in-Some-clause-places : goal.next_of-next-requires-in-Some-clause-places
next_of-next-requires-in-Some-clause-places c = below_at _ _ _ _ c.needs_at-in-Some.ensures c.requires.places (sym c.requires.lengths.long)

pub next_of-next-requires-in-Some-clause-way : goal.next_of-next-requires-in-Some-clause-way
next_of-next-requires-in-Some-clause-way c = way_there _ _ _ c.requires.lengths c.loop-next.invariant.0 _ _ _ c.in-Some.is c.needs_at-in-Some.ensures c.loop-next.invariant.2

pub loop-next-smaller : goal.loop-next-smaller
loop-next-smaller c = falls_there _ _ _ c.requires.lengths c.loop-next.invariant.0 _ _ _ c.in-Some.is c.needs_at-in-Some.ensures c.loop-next.invariant.2 _ c.next_of-next-in-Some.ensures

pub loop-next-preserved : goal.loop-next-preserved
loop-next-preserved c = (
  c.loop-next.invariant.0 ++ c.in-Some.place ∷ [],
  c.in_ok-push.ensures.items ∙ ap (λ l. l ++ c.in-Some.place ∷ []) c.loop-next.invariant.1,
  walk_there _ _ _ c.requires.lengths c.loop-next.invariant.0 _ _ _ c.in-Some.is c.needs_at-in-Some.ensures c.loop-next.invariant.2 _ c.next_of-next-in-Some.ensures,
)
