use Rattle.std.proofs.Common.{length, sym, ◌∙◌, ap, arith}
use Rattle.vk_order.proofs.NumberLemmas.{below_at, needs_long}
use Rattle.vk_order.proofs.ComponentLemmas.{reached_below, reached_less, rest_below, rest_length}
use Rattle.vk_order.proofs.components.flood.Goals as goal

pub loop-place-init : goal.loop-place-init
loop-place-init c = record {
  long = c.in_ok-reach_one.ensures.long ∙ c.requires.long;
  reached = reached_below _ _ _ _ _ _ _ c.requires.long (λ k d within. absurd (omega (arith, within, ap length c.new-reached.ensures.items))) c.in_ok-reach_one.ensures;
}

pub reach-requires : goal.reach-requires
reach-requires c = below_at _ _ _ _ c.needs_at.ensures c.requires.places (needs_long c.args.items.now ∙ sym c.loop-place.invariant.long)

pub loop-place-smaller : goal.loop-place-smaller
loop-place-smaller c =
    reached_less (length c.args.items.now) c.args.number c.needs_at.result.now c.loop-place.components c.reach.new.lengths c.pop.new.self.items c.reach.new.next.items c.loop-place.invariant.long
    (rest_below (length c.args.items.now) c.in-Some.place c.loop-place.reached.items c.pop.new.self.items c.in-Some.ensures.items c.loop-place.invariant.reached) c.in_ok-reach.ensures (length c.loop-place.reached.items)
    (rest_length (length c.args.items.now) c.in-Some.place c.loop-place.reached.items c.pop.new.self.items c.in-Some.ensures.items)

pub loop-place-preserved : goal.loop-place-preserved
loop-place-preserved c = record {
  long = c.in_ok-reach.ensures.long ∙ c.loop-place.invariant.long;
  reached = reached_below _ _ _ _ _ _ _ c.loop-place.invariant.long (rest_below _ _ _ _ c.in-Some.ensures.items c.loop-place.invariant.reached) c.in_ok-reach.ensures;
}
