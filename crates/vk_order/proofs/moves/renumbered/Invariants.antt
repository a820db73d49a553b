use Rattle.std.proofs.Common.{◌≡◌, take, map, slice_index_or}
use Rattle.vk_order.proofs.moves.renumbered.Given as goal

abbrev pub invariant-loop-need : goal.invariant-loop-need
invariant-loop-need l = l.new.items ≡ map (λ n. slice_index_or l.places n 0) (take l.need-index l.needs)
