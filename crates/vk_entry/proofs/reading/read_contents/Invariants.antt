use Rattle.std.proofs.Common.{length, map}
use Rattle.vk_entry.specs.ContentViews.{content_view}
use Rattle.vk_entry.specs.Readings.{Led}
use Rattle.vk_entry.proofs.reading.read_contents.Given as goal

abbrev pub invariant-loop-line : goal.invariant-loop-line
invariant-loop-line l = Led l.bytes (map content_view l.lines) l.left l.number

abbrev pub decreases-loop-line : goal.decreases-loop-line
decreases-loop-line l = length l.left
