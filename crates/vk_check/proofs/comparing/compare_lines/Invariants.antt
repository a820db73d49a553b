use Rattle.std.proofs.Common.{length}
use Rattle.vk_check.specs.Compared.{IsCompared}
use Rattle.vk_check.proofs.comparing.compare_lines.Given as goal

abbrev pub invariant-loop-one : goal.invariant-loop-one
invariant-loop-one l = IsCompared l.report l.want l.line l.left l.wanted

abbrev pub decreases-loop-one : goal.decreases-loop-one
decreases-loop-one l = length l.left
