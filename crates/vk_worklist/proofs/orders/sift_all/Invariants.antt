use Rattle.vk_worklist.specs.Arranged.{IsArranged, IsInOrder}
use Rattle.vk_worklist.proofs.orders.sift_all.Given as goal

abbrev pub invariant-loop-at : goal.invariant-loop-at
invariant-loop-at l = record {
  arranged : IsArranged l.settled l.initial.lines.entries l.lines.entries;
  order : IsInOrder l.settled l.at l.lines.entries;
}
