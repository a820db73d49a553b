use Rattle.std.proofs.Common.{◌+◌}
use Rattle.vk_model.specs.FactViews.{fact_view}
use Rattle.vk_worklist.specs.Entries.{reasons_in}
use Rattle.vk_check.proofs.StepLemmas.{GoesOn, line_follows, line_next, line_taken, line_ticks, stays}
use Rattle.vk_check.proofs.certifying.take_up_line.Goals as goal

pub take_up-requires-clause-at : goal.take_up-requires-clause-at
take_up-requires-clause-at g c = line_next (reasons_in c.args.lines.now.entries) c.args.place (fact_view c.fact_on-fact.result.now) c.fact_on-fact.ensures

pub take_up-requires-clause-follows : goal.take_up-requires-clause-follows
take_up-requires-clause-follows g c =
    line_follows (g.C.Catalogue.state c.args.cat.now).pages (g.S.Source.setting c.args.source.now) (reasons_in c.args.lines.now.entries) c.args.place c.args.marks.now.items (fact_view c.fact_on-fact.result.now) c.fact_on-fact.ensures c.requires.marked c.requires.certified

pub returns-clause-certified : goal.returns-clause-certified
returns-clause-certified g c =
    stays (GoesOn (reasons_in c.args.lines.now.entries) (c.args.place + 1) c.note_all.new.marks.items c.note_all.result) c.in_ok-take_up.ensures.asked.pages c.in_ok-take_up.ensures.setting
    (line_taken (g.C.Catalogue.state c.args.cat.now).pages (g.S.Source.setting c.args.source.now) (reasons_in c.args.lines.now.entries) c.args.place c.args.marks.now.items c.note_all.new.marks.items (fact_view c.fact_on-fact.result.now)
    (reasons_in c.take_up.new.brought.items) c.note_all.result c.requires.distinct c.fact_on-fact.ensures c.requires.marked c.requires.certified c.in_ok-take_up.ensures.brought c.note_all.ensures.there c.note_all.ensures.marks)

pub returns-clause-ticks : goal.returns-clause-ticks
returns-clause-ticks g c = line_ticks (reasons_in c.args.lines.now.entries) c.args.place (fact_view c.fact_on-fact.result.now) c.args.steps.now c.take_up.new.steps c.fact_on-fact.ensures c.take_up.ensures.ticks

pub returns-in_err-take_up-clause-ticks : goal.returns-in_err-take_up-clause-ticks
returns-in_err-take_up-clause-ticks g c = line_ticks (reasons_in c.args.lines.now.entries) c.args.place (fact_view c.fact_on-fact.result.now) c.args.steps.now c.take_up.new.steps c.fact_on-fact.ensures c.take_up.ensures.ticks
