use Rattle.vk_worklist.specs.Arranged.{IsArranged}
use Rattle.vk_worklist.proofs.orders.follow.Given as goal

abbrev pub invariant-loop : goal.invariant-loop
invariant-loop l = IsArranged l.settled l.initial.lines.entries l.lines.entries
