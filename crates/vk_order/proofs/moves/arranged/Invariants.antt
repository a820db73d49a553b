use Rattle.vk_order.proofs.MoveLemmas.{AreTaken}
use Rattle.vk_order.proofs.moves.arranged.Given as goal

abbrev pub invariant-loop-place : goal.invariant-loop-place
invariant-loop-place g l = AreTaken l.fn.things.items l.order l.place-index l.there.items l.moved.items
