use Rattle.std.proofs.Common.{◌≡◌, ◌<◌, ◌+◌, ◌-◌, length}
use Rattle.std.specs.List.{All}
use Rattle.vk_order.specs.Needs.{known_in}
use Rattle.vk_order.proofs.components.flood.Given as goal

abbrev pub invariant-loop-place : goal.invariant-loop-place
invariant-loop-place l = record {
  long : length l.components ≡ length l.items;
  reached : All (λ k. k < length l.items) l.reached.items;
}

abbrev pub decreases-loop-place : goal.decreases-loop-place
decreases-loop-place l = (length l.components - known_in l.components) + (length l.components - known_in l.components) + length l.reached.items
