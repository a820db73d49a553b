use Rattle.vk_order.proofs.MoveLemmas.{AreFirstRenumbered}
use Rattle.vk_order.proofs.moves.renumber_all.Given as goal

abbrev pub invariant-loop-place : goal.invariant-loop-place
invariant-loop-place l = AreFirstRenumbered l.places l.initial.items l.items l.place
