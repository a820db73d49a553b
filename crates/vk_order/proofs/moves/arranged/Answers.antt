use Rattle.vk_order.proofs.MoveLemmas.{one_taken}
use Rattle.vk_order.proofs.moves.arranged.Goals as goal

pub loop-place-preserved : goal.loop-place-preserved
loop-place-preserved g c = one_taken _ _ _ _ _ _ _ _ _ _ _ c.requires.once c.loop-place-test.true c.deref_mut.ensures.value c.deref_mut.ensures.len c.take_at.ensures.taken c.take_at.ensures.rest c.in_ok-push.ensures.items c.loop-place.invariant
