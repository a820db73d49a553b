use Rattle.std.proofs.Common.{sym, ◌∙◌, true, false, ◌≡◌, map, subst}
use Rattle.vk_entry.specs.ContentViews.{content_view}
use Rattle.vk_entry.specs.Readings.{Led}
use Rattle.vk_entry.proofs.ReadLemmas.{led_start, led_more, led_refused, led_whole, led_ends, other_heading, passed_on}
use Rattle.vk_entry.proofs.reading.read_contents.Goals as goal

pub returns-then-not-is_heading : goal.returns-then-not-is_heading
returns-then-not-is_heading c =
    other_heading c.args.bytes.now c.in-Some.heading.now c.in-Some.rest.now c.in-Some.ensures.0 c.in-Some.ensures.1
    (λ is. let clash : true ≡ false = sym (c.is_heading.ensures.1 is) ∙ c.if-not-is_heading.true in (cc))

pub loop-line-init : goal.loop-line-init
loop-line-init c =
    subst (λ l. Led c.args.bytes.now (map content_view l) c.in-Some.rest.now 2) (sym c.new-lines.ensures)
    (led_start c.args.bytes.now c.in-Some.heading.now c.in-Some.rest.now c.requires c.in-Some.ensures.0 (c.is_heading.ensures.0 c.if-not-is_heading.false))

pub returns-in_err-take_line : goal.returns-in_err-take_line
returns-in_err-take_line c =
    passed_on c.args.bytes.now c.from_residual.result c.in_err-take_line.field-0.0 c.from_residual.ensures.1
    (led_refused c.args.bytes.now (map content_view c.loop-line.lines) c.loop-line.left.now c.loop-line.number c.loop-line.invariant
    c.in-Some-cut_line.line.now c.in-Some-cut_line.more.now c.in-Some-cut_line.ensures.0
    (map content_view c.take_line.new.lines) c.in_err-take_line.field-0.0 c.in-Some-cut_line.ensures.1 c.in_err-take_line.ensures)

pub returns-then-branch : goal.returns-then-branch
returns-then-branch c =
    led_whole c.args.bytes.now (map content_view c.loop-line.lines) c.loop-line.left.now c.loop-line.number c.loop-line.invariant
    c.in-Some-cut_line.line.now c.in-Some-cut_line.more.now c.in-Some-cut_line.ensures.0
    c.take_line.new.lines c.whole.result (rw c.if-branch.true at c.in_ok-take_line.ensures) c.whole.ensures

pub loop-line-preserved : goal.loop-line-preserved
loop-line-preserved c =
    led_more c.args.bytes.now (map content_view c.loop-line.lines) c.loop-line.left.now c.loop-line.number c.loop-line.invariant
    c.in-Some-cut_line.line.now c.in-Some-cut_line.more.now c.in-Some-cut_line.ensures.0
    (map content_view c.take_line.new.lines) (rw c.if-branch.false at c.in_ok-take_line.ensures)

pub returns : goal.returns
returns c =
    led_ends c.args.bytes.now (map content_view c.loop-line.lines) c.loop-line.left.now c.loop-line.number c.in_ok-lacking.field-0 c.loop-line.invariant
    c.in_default-cut_line.ensures c.in_ok-lacking.ensures
