use Rattle.vk_order.proofs.MoveLemmas.{one_renumbered, next_below, all_renumbered}
use Rattle.vk_order.proofs.moves.renumber_all.Goals as goal

pub renumber-requires : goal.renumber-requires
renumber-requires c = next_below _ _ _ _ _ _ c.loop-place-test.true c.loop-place.invariant c.requires

pub loop-place-preserved : goal.loop-place-preserved
loop-place-preserved c = one_renumbered _ _ _ _ _ _ c.loop-place-test.true c.in_ok-renumber.ensures c.loop-place.invariant

pub returns : goal.returns
returns c = all_renumbered _ _ _ _ c.loop-place-test.false c.loop-place.invariant
