use Rattle.std.proofs.Common.{◌≡◌, ◌+◌, ◌≤◌, length}
use Rattle.std.specs.Str.{IsUtf8}
use Rattle.vk_base.specs.Paths.{Lacks, ups_of}
use Rattle.vk_base.specs.PathReading.{walked, segments, start_of}
use Rattle.vk_base.proofs.paths.walk.Given as goal

abbrev pub decreases-loop-segment : goal.decreases-loop-segment
decreases-loop-segment l = length l.rest

abbrev pub invariant-loop-segment : goal.invariant-loop-segment
invariant-loop-segment l = (walked l.path (segments l.rest) ≡ walked (start_of l.text) (segments l.text)) × Lacks 0 l.rest × (ups_of l.path + length l.rest ≤ 4096) × IsUtf8 l.rest
