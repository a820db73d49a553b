use Rattle.std.proofs.Common.{◌+◌, ◌-◌, length}
use Rattle.vk_entry.proofs.DifferenceLemmas.{IsLeft}
use Rattle.vk_entry.proofs.differences.has_outside.Given as goal

abbrev pub invariant-loop-at : goal.invariant-loop-at
invariant-loop-at l = IsLeft l.paths l.others l.at l.other

abbrev pub decreases-loop-at : goal.decreases-loop-at
decreases-loop-at l = (length l.paths - l.at) + (length l.others - l.other)
