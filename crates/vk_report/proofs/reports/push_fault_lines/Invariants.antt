use Rattle.std.proofs.Common.{◌≡◌, ◌++◌, take, string_bytes}
use Rattle.std.specs.List.{flat_map}
use Rattle.vk_resolution.specs.Lines.{ended, fault_line}
use Rattle.vk_model.specs.FaultViews.{faults_view}
use Rattle.vk_report.proofs.reports.push_fault_lines.Given as goal

abbrev pub invariant-loop-fault : goal.invariant-loop-fault
invariant-loop-fault l = string_bytes l.report ≡ string_bytes l.initial.report ++ flat_map (λ f. ended (fault_line f)) (faults_view (take l.fault-index l.faults))
