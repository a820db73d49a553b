use Rattle.std.proofs.Common.{◌≤◌, ◌+◌}
use Rattle.vk_worklist.specs.Arranged.{IsArranged, IsSifted}
use Rattle.vk_worklist.proofs.orders.sift.Given as goal

abbrev pub invariant-loop-lines : goal.invariant-loop-lines
invariant-loop-lines l = record {
  from : l.settled ≤ l.place;
  to : l.place ≤ l.at;
  arranged : IsArranged l.settled l.initial.lines.entries l.lines.entries;
  sifted : IsSifted l.settled (l.at + 1) l.place l.lines.entries;
}

abbrev pub decreases-loop-lines : goal.decreases-loop-lines
decreases-loop-lines l = l.place
