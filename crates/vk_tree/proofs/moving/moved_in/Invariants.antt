use Rattle.std.proofs.Common.{◌≡◌, ◌++◌, length}
use Rattle.std.specs.FinMap as map
use Rattle.vk_spec.specs.Standing.{disk_of}
use Rattle.vk_spec.specs.Calls.{Moves}
use Rattle.vk_tree.proofs.FileMapLemmas.{Entries}
use Rattle.vk_tree.proofs.moving.moved_in.Given as goal

-- the files that are done, the last ones, have been moved
abbrev pub invariant-loop-path : goal.invariant-loop-path
invariant-loop-path l = (done : Entries) × (l.files.entries ≡ l.left ++ done) × Moves l.from l.to (disk_of (map.from_entries done)) (disk_of (map.from_entries l.moved.entries))

abbrev pub decreases-loop-path : goal.decreases-loop-path
decreases-loop-path l = length l.left
