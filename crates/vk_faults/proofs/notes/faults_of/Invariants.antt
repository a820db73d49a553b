use Rattle.std.proofs.Common.{◌≡◌, ◌++◌, length, map}
use Rattle.vk_model.specs.FaultViews.{fault_view}
use Rattle.vk_faults.specs.Notes.{fault_of, noted}
use Rattle.vk_faults.proofs.notes.faults_of.Given as goal

abbrev pub invariant-loop-note : goal.invariant-loop-note
invariant-loop-note l = map fault_view l.faults.items ++ map fault_of (noted l.notes.entries) ≡ map fault_of (noted l.initial.notes.entries)

abbrev pub decreases-loop-note : goal.decreases-loop-note
decreases-loop-note l = length l.notes.entries
