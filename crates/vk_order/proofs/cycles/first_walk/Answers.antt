use Rattle.std.proofs.Common.{arith}
use Rattle.vk_order.proofs.NumberLemmas.{needs_long}
use Rattle.vk_order.proofs.WalkLemmas.{walk_found, none_more}
use Rattle.vk_order.proofs.cycles.first_walk.Goals as goal

pub loop-place-preserved : goal.loop-place-preserved
loop-place-preserved c = none_more _ _ _ c.loop-place.invariant (rw c.in_default.is at c.in_ok-walk.ensures)

pub returns : goal.returns
returns c k within unknown = c.loop-place.invariant k (omega (arith, within, needs_long c.args.items.now, c.loop-place-test.false)) unknown

pub returns-in-Some : goal.returns-in-Some
returns-in-Some c = walk_found _ _ _ _ (omega (arith, needs_long c.args.items.now)) c.loop-place.invariant (rw c.in-Some.is at c.in_ok-walk.ensures)
