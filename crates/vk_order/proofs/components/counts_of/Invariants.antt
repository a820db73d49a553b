use Rattle.std.proofs.Common.{◌≡◌, length}
use Rattle.vk_order.proofs.components.counts_of.Given as goal

abbrev pub invariant-loop-place : goal.invariant-loop-place
invariant-loop-place l = length l.counts.items ≡ l.place
