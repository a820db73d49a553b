use Rattle.std.proofs.Common.{◌<◌, length}
use Rattle.std.specs.List.{All}
use Rattle.vk_order.proofs.peeling.count_down.Given as goal

abbrev pub invariant-loop-user : goal.invariant-loop-user
invariant-loop-user l = All (λ k. k < length l.missing) l.order.items
