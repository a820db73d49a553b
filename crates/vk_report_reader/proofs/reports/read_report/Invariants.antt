use Rattle.std.proofs.Common.{length}
use Rattle.vk_report_reader.specs.Cuts.{Led}
use Rattle.vk_report_reader.specs.PlaceViews.{place_view}
use Rattle.vk_report_reader.proofs.reports.read_report.Given as goal

abbrev pub invariant-loop-line : goal.invariant-loop-line
invariant-loop-line l = Led l.bytes (place_view l.place) l.left l.number

abbrev pub decreases-loop-line : goal.decreases-loop-line
decreases-loop-line l = length l.left
