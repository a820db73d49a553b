use Rattle.std.proofs.Common.{codes}
use Rattle.std.specs.Prelude.{bytes_eq}
use Rattle.std.proofs.lemmas.Slice.Eq.{bytes_eq-Decides}
use Rattle.vk_report_reader.specs.PlaceViews.{place_view}
use Rattle.vk_report_reader.proofs.ReportForms.{ends_refused, heading_refused, led_more, led_refused, led_start, other_heading, same_heading}
use Rattle.vk_report_reader.proofs.reports.read_report.Goals as goal

pub returns-then-ne : goal.returns-then-ne
returns-then-ne c =
    ends_refused c.args.bytes.now 1 c.refused-then-ne.result c.refused-then-ne.ensures
    (heading_refused c.args.bytes.now c.in-Some.heading.now c.in-Some.rest.now c.in-Some.ensures.0 c.in-Some.ensures.1
    (other_heading (bytes_eq c.in-Some.heading.now (codes "vcpkg-plan 1")) (bytes_eq-Decides c.in-Some.heading.now (codes "vcpkg-plan 1")) c.if-ne.ensures))

pub loop-line-init : goal.loop-line-init
loop-line-init c =
    led_start c.args.bytes.now c.requires c.in-Some.heading.now c.in-Some.rest.now c.in-Some.ensures.0
    (same_heading (bytes_eq c.in-Some.heading.now (codes "vcpkg-plan 1")) (bytes_eq-Decides c.in-Some.heading.now (codes "vcpkg-plan 1")) c.if-ne.ensures)

pub returns-in-None : goal.returns-in-None
returns-in-None c =
    ends_refused c.args.bytes.now c.loop-line.number c.refused-in-None.result c.refused-in-None.ensures
    (led_refused c.args.bytes.now (place_view c.loop-line.place) c.loop-line.left.now c.in-Some-next_line.line.now c.in-Some-next_line.more.now c.loop-line.number c.loop-line.invariant c.in-Some-next_line.ensures.0 c.in-Some-next_line.ensures.1
    (rw c.in-None.is at c.in_ok-next.ensures))

pub loop-line-preserved : goal.loop-line-preserved
loop-line-preserved c =
    led_more c.args.bytes.now (place_view c.loop-line.place) (place_view c.in-Some-2.next) c.loop-line.left.now c.in-Some-next_line.line.now c.in-Some-next_line.more.now c.loop-line.number c.loop-line.invariant c.in-Some-next_line.ensures.0
    (rw c.in-Some-2.is at c.in_ok-next.ensures)
