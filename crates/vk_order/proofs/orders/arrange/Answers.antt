use Rattle.std.proofs.Common.{subst}
use Rattle.std.specs.Prelude.{IfOk}
use Rattle.vk_order.specs.Needs.{needs_of}
use Rattle.vk_order.specs.Ways.{AreOnNone}
use Rattle.vk_order.specs.Arranging.{ArePlaced}
use Rattle.vk_order.proofs.NumberLemmas.{needs_long}
use Rattle.vk_order.proofs.ArrangingLemmas.{walk_places, placed_on}
use Rattle.vk_order.proofs.orders.arrange.Goals as goal

pub instances_at-requires : goal.instances_at-requires
instances_at-requires c = walk_places _ _ _ _ _ c.requires.places (rw c.in-Some.is at c.in_ok-walk.ensures) (needs_long c.args.items.now) c.deref-in-Some.ensures.value

pub returns : goal.returns
returns c =
    placed_on c.args.items.now c.in_ok-heights.heights.items c.in_ok-heights.ensures (subst (AreOnNone (needs_of c.args.items.now)) c.deref-3.ensures.value (rw c.in-None.is at c.in_ok-walk.ensures)) c.by_height.result
    (subst (λ hs. IfOk c.by_height.result (ArePlaced hs)) c.deref-in-None.ensures.value c.by_height.ensures)
