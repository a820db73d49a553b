use Rattle.std.proofs.Common.{◌≡◌, ℕ, List, ◌∷◌}
use Rattle.vk_order.specs.Needs.{needs_of}
use Rattle.vk_order.specs.Ways.{IsWalkTo}
use Rattle.vk_order.proofs.WalkLemmas.{steps_left}
use Rattle.vk_order.proofs.cycles.walk_from.Given as goal

abbrev pub invariant-loop-next : goal.invariant-loop-next
invariant-loop-next l = (js : List ℕ) × (l.walk.items ≡ l.first ∷ js) × IsWalkTo (needs_of l.items) l.lengths l.first js l.next

abbrev pub decreases-loop-next : goal.decreases-loop-next
decreases-loop-next l = steps_left l.lengths l.next
