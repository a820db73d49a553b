use Rattle.std.proofs.Common.{◌≡◌, ◌<◌, length}
use Rattle.std.specs.List.{All}
use Rattle.vk_order.proofs.components.numbered.Given as goal

abbrev pub invariant-loop-place : goal.invariant-loop-place
invariant-loop-place l = record {
  long : length l.components.items ≡ length l.items;
  within : All (λ k. k < length l.items) l.places.items;
}

abbrev pub decreases-loop-place : goal.decreases-loop-place
decreases-loop-place l = length l.places.items
