use Rattle.std.proofs.Common.{codes}
use Rattle.std.specs.Prelude.{bytes_eq}
use Rattle.std.proofs.lemmas.Slice.Eq.{bytes_eq-Decides}
use Rattle.vk_abi_text.specs.Adding.{gathering_view}
use Rattle.vk_abi_text.proofs.ReadLemmas.{ends_refused, heading_refused, led_more, led_refused, led_start, led_utf8, other_heading, same_heading}
use Rattle.vk_abi_text.proofs.readers.read_abi.Goals as goal

pub returns-in_default : goal.returns-in_default
returns-in_default c = ends_refused c.args.bytes.now c.unbegun.result c.refused.result c.refused.ensures c.unbegun.ensures

pub returns-then-ne : goal.returns-then-ne
returns-then-ne c =
    ends_refused c.args.bytes.now 1 c.refused-then-ne.result c.refused-then-ne.ensures
    (heading_refused c.args.bytes.now c.in-Some.heading.now c.in-Some.rest.now c.in-Some.ensures.0 c.in-Some.ensures.1
    (other_heading (bytes_eq c.in-Some.heading.now (codes "abi 2")) (bytes_eq-Decides c.in-Some.heading.now (codes "abi 2")) c.if-ne.ensures))

pub loop-line-init : goal.loop-line-init
loop-line-init c =
    led_start c.args.bytes.now c.requires c.in-Some.heading.now c.in-Some.rest.now c.in-Some.ensures.0
    (same_heading (bytes_eq c.in-Some.heading.now (codes "abi 2")) (bytes_eq-Decides c.in-Some.heading.now (codes "abi 2")) c.if-ne.ensures)
    (gathering_view c.new-gathering.result) c.new-gathering.ensures

pub follow-requires-text-last : goal.follow-requires-text-last
follow-requires-text-last c κs = led_utf8 c.args.bytes.now (gathering_view c.loop-line.gathering) c.loop-line.last.now c.loop-line.left.now c.loop-line.number c.loop-line.invariant

pub finish-requires-text-last : goal.finish-requires-text-last
finish-requires-text-last c κs = led_utf8 c.args.bytes.now (gathering_view c.loop-line.gathering) c.loop-line.last.now c.loop-line.left.now c.loop-line.number c.loop-line.invariant

pub returns-in-Ok-false : goal.returns-in-Ok-false
returns-in-Ok-false c =
    ends_refused c.args.bytes.now c.loop-line.number c.refused-in-Ok-false.result c.refused-in-Ok-false.ensures
    (led_refused c.args.bytes.now (gathering_view c.loop-line.gathering) (gathering_view c.follow.new.gathering) c.loop-line.last.now c.loop-line.left.now c.in-Some-next_line.line.now c.in-Some-next_line.more.now c.loop-line.number
    c.loop-line.invariant c.in-Some-next_line.ensures.0 c.in-Some-next_line.ensures.1
    (rw c.in-Ok-false.field-0-test at c.in-Ok-false.ensures))

pub loop-line-preserved : goal.loop-line-preserved
loop-line-preserved c =
    led_more c.args.bytes.now (gathering_view c.loop-line.gathering) (gathering_view c.follow.new.gathering) c.loop-line.last.now c.loop-line.left.now c.in-Some-next_line.line.now c.in-Some-next_line.more.now c.loop-line.number
    c.loop-line.invariant c.in-Some-next_line.ensures.0
    (rw c.in-Ok-true.field-0-test at c.in-Ok-true.ensures)

pub returns : goal.returns
returns c = c.finish.ensures c.args.bytes.now c.loop-line.invariant
