use Rattle.std.proofs.Common.{◌∙◌, ◌+◌, sym, arith}
use Rattle.vk_check.specs.Compared.{IsCompared}
use Rattle.vk_check.proofs.CompareLemmas.{absent, compared_differ, compared_last, compared_more, compared_room, no_bytes, some_bytes}
use Rattle.vk_check.proofs.comparing.compare_lines.Goals as goal

pub returns-then-not-is_same : goal.returns-then-not-is_same
returns-then-not-is_same c =
    compared_differ c.args.report.now c.args.want.now c.loop-one.line c.loop-one.left.now c.loop-one.wanted.now
    c.split_line.result.0.now c.split_line.result.1.now c.split_line-in-loop-one.result.0.now c.split_line-in-loop-one.result.1.now c.in_ok-want.want
    c.loop-one.invariant c.split_line.ensures.lines c.split_line-in-loop-one.ensures.lines (absent c.is_same.ensures c.if-not-is_same.true) c.in_ok-want.ensures

pub returns-then-is_empty : goal.returns-then-is_empty
returns-then-is_empty c =
    compared_last c.args.report.now c.args.want.now c.loop-one.line c.loop-one.left.now c.loop-one.wanted.now
    c.split_line.result.0.now c.split_line.result.1.now c.split_line-in-loop-one.result.0.now c.split_line-in-loop-one.result.1.now
    c.loop-one.invariant c.split_line.ensures.lines c.split_line-in-loop-one.ensures.lines (c.is_same.ensures.0 c.if-not-is_same.false) (no_bytes c.split_line.result.0.now (sym c.is_empty.ensures ∙ c.if-is_empty.true))

more : (c : goal.Else-is_empty) → IsCompared c.args.report.now c.args.want.now (c.loop-one.line + 1) c.split_line.result.1.now c.split_line-in-loop-one.result.1.now
more c =
    compared_more c.args.report.now c.args.want.now c.loop-one.line c.loop-one.left.now c.loop-one.wanted.now
    c.split_line.result.0.now c.split_line.result.1.now c.split_line-in-loop-one.result.0.now c.split_line-in-loop-one.result.1.now
    c.loop-one.invariant c.split_line.ensures.text c.split_line-in-loop-one.ensures.text c.split_line.ensures.lines c.split_line-in-loop-one.ensures.lines
    (c.is_same.ensures.0 c.if-not-is_same.false) (some_bytes c.split_line.result.0.now (sym c.is_empty.ensures ∙ c.if-is_empty.false))

pub overflow_add-line : goal.overflow_add-line
overflow_add-line c =
    omega (arith, compared_room c.args.report.now c.args.want.now (c.loop-one.line + 1) c.split_line.result.1.now c.split_line-in-loop-one.result.1.now c.requires (more c))

pub loop-one-preserved : goal.loop-one-preserved
loop-one-preserved c = more c
