use Rattle.std.proofs.Common.{◌≡◌, ◌<◌, length}
use Rattle.std.specs.List.{All}
use Rattle.vk_order.proofs.peeling.bottom.Given as goal

abbrev pub invariant-loop-place : goal.invariant-loop-place
invariant-loop-place l = (length l.missing.items ≡ l.place) × All (λ k. k < length l.items) l.order.items
