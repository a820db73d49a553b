use Rattle.std.proofs.Common.{◌∙◌, ◌<◌, ◌≤◌, true, false, sym, subst}
use Rattle.std.proofs.lemmas.List.{length-map}
use Rattle.vk_worklist.specs.Entries.{facts_in, reason_of, reasons_in}
use Rattle.vk_check.proofs.StepLemmas.{Holds, lines_last, line_unmarked, stays, ticks_all, ticks_later}
use Rattle.vk_check.proofs.CompareLemmas.{absent}
use Rattle.vk_check.proofs.certifying.certify_lines.Goals as goal

pub returns-then-not-is_marked-clause-certified : goal.returns-then-not-is_marked-clause-certified
returns-then-not-is_marked-clause-certified g c =
    stays (Holds (reasons_in c.args.lines.now.entries) false) (sym c.loop-place.invariant.asked.pages) (sym c.loop-place.invariant.setting)
    (line_unmarked (g.C.Catalogue.state c.loop-place.cat).pages (g.S.Source.setting c.loop-place.source) (reasons_in c.args.lines.now.entries) c.loop-place.place c.loop-place.marks.items
    (subst (λ k. c.loop-place.place < k) (c.len.ensures.len ∙ sym (length-map c.args.lines.now.entries reason_of)) c.loop-place-test.true)
    (absent c.is_marked.ensures c.if-not-is_marked.true) c.loop-place.invariant.certified)

pub returns-then-not-is_marked-clause-ticks : goal.returns-then-not-is_marked-clause-ticks
returns-then-not-is_marked-clause-ticks g c = ticks_all (facts_in c.args.lines.now.entries) c.loop-place.place c.args.steps.now c.loop-place.steps c.loop-place.invariant.ticks

pub returns-then-not-branch-clause-certified : goal.returns-then-not-branch-clause-certified
returns-then-not-branch-clause-certified g c =
    stays (Holds (reasons_in c.args.lines.now.entries) false) (sym (c.in_ok-take_up_line.ensures.asked.pages ∙ c.loop-place.invariant.asked.pages)) (sym (c.in_ok-take_up_line.ensures.setting ∙ c.loop-place.invariant.setting))
    (rw c.if-not-branch.true at c.in_ok-take_up_line.ensures.certified)

pub returns-then-not-branch-clause-ticks : goal.returns-then-not-branch-clause-ticks
returns-then-not-branch-clause-ticks g c = ticks_later (facts_in c.args.lines.now.entries) c.loop-place.place c.args.steps.now c.loop-place.steps c.take_up_line.new.steps c.loop-place.invariant.ticks c.take_up_line.ensures.ticks

pub returns-clause-certified : goal.returns-clause-certified
returns-clause-certified g c =
    stays (Holds (reasons_in c.args.lines.now.entries) true) (sym c.loop-place.invariant.asked.pages) (sym c.loop-place.invariant.setting)
    (lines_last (g.C.Catalogue.state c.loop-place.cat).pages (g.S.Source.setting c.loop-place.source) (reasons_in c.args.lines.now.entries) c.loop-place.place c.loop-place.marks.items c.requires.distinct
    (subst (λ k. k ≤ c.loop-place.place) (c.len.ensures.len ∙ sym (length-map c.args.lines.now.entries reason_of)) c.loop-place-test.false) c.loop-place.invariant.certified)

pub returns-clause-ticks : goal.returns-clause-ticks
returns-clause-ticks g c = ticks_all (facts_in c.args.lines.now.entries) c.loop-place.place c.args.steps.now c.loop-place.steps c.loop-place.invariant.ticks

pub returns-in_err-take_up_line-clause-ticks : goal.returns-in_err-take_up_line-clause-ticks
returns-in_err-take_up_line-clause-ticks g c = ticks_later (facts_in c.args.lines.now.entries) c.loop-place.place c.args.steps.now c.loop-place.steps c.take_up_line.new.steps c.loop-place.invariant.ticks c.take_up_line.ensures.ticks
