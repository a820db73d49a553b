use Rattle.std.proofs.Common.{◌≡◌, ◌++◌, List, length, map}
use Rattle.vk_resolution.specs.Faults as plain
use Rattle.vk_resolution.specs.Lines.{fault_line}
use Rattle.vk_resolution.specs.Outcomes.{lines_of}
use Rattle.vk_model.specs.FaultViews.{fault_view}
use Rattle.vk_fault_lines.specs.Printed.{printed, seen}
use Rattle.vk_fault_lines.proofs.sorting.by_line.Given as goal

abbrev pub invariant-loop-fault : goal.invariant-loop-fault
invariant-loop-fault l = (done : List plain.Fault) × (map fault_view l.faults.items ++ done ≡ map fault_view l.initial.faults.items) × (seen l.lines.entries ≡ printed (lines_of fault_line done))

abbrev pub decreases-loop-fault : goal.decreases-loop-fault
decreases-loop-fault l = length l.faults.items
