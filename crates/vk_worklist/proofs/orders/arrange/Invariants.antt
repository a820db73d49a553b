use Rattle.vk_worklist.specs.Arranged.{IsArranged}
use Rattle.vk_worklist.proofs.orders.arrange.Given as goal

abbrev pub invariant-loop-start : goal.invariant-loop-start
invariant-loop-start l = IsArranged l.settled l.initial.lines.entries l.lines.entries
