use Rattle.std.proofs.Common.{◌+◌, drop}
use Rattle.vk_model.specs.FactViews.{reason_view, reasons_view}
use Rattle.vk_worklist.specs.Entries.{reasons_in}
use Rattle.vk_check.proofs.EntryLemmas.{distinct_more, reasons_more, reasons_split, stands_twice}
use Rattle.vk_check.proofs.claims.put_lines.Goals as goal

pub returns-then-not-branch : goal.returns-then-not-branch
returns-then-not-branch c =
    stands_twice (reasons_in c.loop-reason.lines.entries) (reason_view c.reason-item.result) (reasons_view (drop (c.loop-reason.reason-index + 1) c.args.reasons.now)) (reasons_view c.args.reasons.now)
    (reasons_split c.args.reasons.now c.loop-reason.reason-index c.reason-item.result c.loop-reason-test.true c.reason-item.is (reasons_in c.loop-reason.lines.entries) c.loop-reason.invariant.lines)
    (rw c.if-not-branch.true at c.in_ok-put_line.ensures)

pub loop-reason-preserved : goal.loop-reason-preserved
loop-reason-preserved c =
    let more = rw c.if-not-branch.false at c.in_ok-put_line.ensures in
    record {
      lines = reasons_more c.args.reasons.now c.loop-reason.reason-index c.reason-item.result c.loop-reason-test.true c.reason-item.is (reasons_in c.loop-reason.lines.entries) (reasons_in c.put_line.new.lines.entries) c.loop-reason.invariant.lines more.1;
      distinct = distinct_more (reasons_in c.loop-reason.lines.entries) (reasons_in c.put_line.new.lines.entries) (reason_view c.reason-item.result) more.1 c.loop-reason.invariant.distinct more.0;
    }
