use Rattle.std.proofs.Common.{◌≡◌, ◌++◌, length, map}
use Rattle.vk_model.specs.FaultViews.{faults_view}
use Rattle.vk_fault_lines.specs.Printed.{seen}
use Rattle.vk_fault_lines.proofs.sorting.in_order.Given as goal

abbrev pub invariant-loop-fault : goal.invariant-loop-fault
invariant-loop-fault l = faults_view l.faults ++ map (λ e. e.1) (seen l.lines.entries) ≡ map (λ e. e.1) (seen l.initial.lines.entries)

abbrev pub decreases-loop-fault : goal.decreases-loop-fault
decreases-loop-fault l = length l.lines.entries
