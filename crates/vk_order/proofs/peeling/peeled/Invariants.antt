use Rattle.std.proofs.Common.{◌≡◌, ◌<◌, length}
use Rattle.std.specs.List.{All}
use Rattle.vk_order.proofs.peeling.peeled.Given as goal

abbrev pub invariant-loop-done : goal.invariant-loop-done
invariant-loop-done l = (length l.missing.items ≡ length l.items) × All (λ k. k < length l.items) l.order.items
