use Rattle.std.proofs.Common.{◌∙◌, ◌++◌, ◌+◌, ap, take, subst, arith}
use Rattle.std.specs.Prelude.{IfSome}
use Rattle.std.proofs.lemmas.List.{append_assoc}
use Rattle.std.proofs.lemmas.Result.{err_from_is_err_and}
use Rattle.vk_spec.proofs.AskLemmas.{asked_then}
use Rattle.vk_resolution.specs.Closing.{IsClosing}
use Rattle.vk_resolution.specs.Closures.{HasTooManyFacts}
use Rattle.vk_resolution.specs.Planner.{inputs_of}
use Rattle.vk_model.specs.FactViews.{fact_view}
use Rattle.vk_worklist.specs.Entries.{reasons_in, facts_in}
use Rattle.vk_worklist.proofs.NoteLemmas.{noted_distinct}
use Rattle.vk_worklist.proofs.LevelLemmas.{front_facts, front_line, line_follows, one_more, one_forced}
use Rattle.vk_worklist.proofs.EndLemmas.{stays, fault_means}
use Rattle.vk_worklist.proofs.TickLemmas.{tick_step, ticks_take}
use Rattle.vk_worklist.proofs.levels.take_up_level.Goals as goal

pub take_up-requires-clause-follows : goal.take_up-requires-clause-follows
take_up-requires-clause-follows g c = line_follows (g.C.Catalogue.state c.loop-taken.cat).pages (g.S.Source.setting c.loop-taken.source) c.args.lines.now.entries c.loop-taken.invariant.fresh c.loop-taken.lines.entries c.loop-taken.taken (fact_view c.line_at-fact.result.now) c.loop-taken.invariant.split (omega (arith, c.loop-taken-test.true, c.len-settled.ensures.len)) c.line_at-fact.ensures c.loop-taken.invariant.closing

pub returns-in_err-take_up-clause-ticks : goal.returns-in_err-take_up-clause-ticks
returns-in_err-take_up-clause-ticks g c =
    let step = tick_step (facts_in c.args.lines.now.entries) c.loop-taken.taken (fact_view c.line_at-fact.result.now) c.loop-taken.steps c.take_up.new.steps (front_line c.args.lines.now.entries c.loop-taken.invariant.fresh c.loop-taken.lines.entries c.loop-taken.invariant.split c.loop-taken.taken (fact_view c.line_at-fact.result.now) (omega (arith, c.loop-taken-test.true, c.len-settled.ensures.len)) c.line_at-fact.ensures) c.take_up.ensures.ticks in
    let few = ticks_take (c.loop-taken.taken + 1) (facts_in c.args.lines.now.entries) in
    omega (arith, c.loop-taken.invariant.ticks, step, few)

pub returns-in_err-note_all-clause-ticks : goal.returns-in_err-note_all-clause-ticks
returns-in_err-note_all-clause-ticks g c =
    let step = tick_step (facts_in c.args.lines.now.entries) c.loop-taken.taken (fact_view c.line_at-fact.result.now) c.loop-taken.steps c.take_up.new.steps (front_line c.args.lines.now.entries c.loop-taken.invariant.fresh c.loop-taken.lines.entries c.loop-taken.invariant.split c.loop-taken.taken (fact_view c.line_at-fact.result.now) (omega (arith, c.loop-taken-test.true, c.len-settled.ensures.len)) c.line_at-fact.ensures) c.take_up.ensures.ticks in
    let few = ticks_take (c.loop-taken.taken + 1) (facts_in c.args.lines.now.entries) in
    omega (arith, c.loop-taken.invariant.ticks, step, few)

pub returns-in_err-note_all-clause-facts : goal.returns-in_err-note_all-clause-facts
returns-in_err-note_all-clause-facts g c =
    let p = err_from_is_err_and c.from_residual-in_err-note_all.result c.from_residual-in_err-note_all.ensures.1 in
    rw (p.1, p.2) (fault_means c.in_err-note_all.field-0.0 c.args.most (λ much.
    stays (λ s pages. HasTooManyFacts (inputs_of s pages)) c.in_ok-take_up.ensures.asked.pages c.in_ok-take_up.ensures.setting
    (one_forced (g.C.Catalogue.state c.loop-taken.cat).pages (g.S.Source.setting c.loop-taken.source) c.args.lines.now.entries c.loop-taken.invariant.fresh c.loop-taken.lines.entries c.take_up.new.brought.items c.loop-taken.taken (fact_view c.line_at-fact.result.now) c.args.most c.loop-taken.invariant.split (omega (arith, c.loop-taken-test.true, c.len-settled.ensures.len)) c.line_at-fact.ensures c.loop-taken.invariant.closing c.in_ok-take_up.ensures.brought
    (ap (λ s. s.max_facts) c.loop-taken.invariant.setting ∙ c.requires.limit) much)) c.in_err-note_all.ensures.facts)

pub loop-taken-preserved : goal.loop-taken-preserved
loop-taken-preserved g c =
    let lines = c.args.lines.now.entries in
    let fresh = c.loop-taken.invariant.fresh in
    let noted = c.in_ok-note_all.ensures.ok in
    record {
      fresh = fresh ++ noted.more;
      split = noted.behind ∙ ap (λ l. l ++ noted.more) c.loop-taken.invariant.split ∙ append_assoc lines fresh noted.more;
      within = omega (arith, c.loop-taken-test.true, c.len-settled.ensures.len);
      distinct = noted_distinct c.loop-taken.lines.entries c.take_up.new.brought.items c.note_all.new.lines.entries noted c.loop-taken.invariant.distinct;
      few = c.in_ok-note_all.ensures.few;
      ticks = (let step = tick_step (facts_in c.args.lines.now.entries) c.loop-taken.taken (fact_view c.line_at-fact.result.now) c.loop-taken.steps c.take_up.new.steps (front_line c.args.lines.now.entries c.loop-taken.invariant.fresh c.loop-taken.lines.entries c.loop-taken.invariant.split c.loop-taken.taken (fact_view c.line_at-fact.result.now) (omega (arith, c.loop-taken-test.true, c.len-settled.ensures.len)) c.line_at-fact.ensures) c.take_up.ensures.ticks in omega (arith, c.loop-taken.invariant.ticks, step));
      setting = c.in_ok-take_up.ensures.setting ∙ c.loop-taken.invariant.setting;
      asked = asked_then c.loop-taken.invariant.asked c.in_ok-take_up.ensures.asked;
      none = c.in_ok-note_all.ensures.none;
      tracks = stays (λ s pages. g.S.Source.tracks c.take_up.new.self pages (take (c.loop-taken.taken + 1) (facts_in lines))) c.in_ok-take_up.ensures.asked.pages c.in_ok-take_up.ensures.setting
          (subst (λ l. IfSome (g.C.Catalogue.state c.loop-taken.cat).pages (λ pages. g.S.Source.tracks c.take_up.new.self pages l)) (front_facts c.args.lines.now.entries c.loop-taken.invariant.fresh c.loop-taken.lines.entries c.loop-taken.invariant.split (c.loop-taken.taken + 1) (omega (arith, c.loop-taken-test.true, c.len-settled.ensures.len))) c.in_ok-take_up.ensures.tracks);
      closing = stays (λ s pages. IsClosing (inputs_of s pages) (reasons_in lines) (take (c.loop-taken.taken + 1) (facts_in lines)) (reasons_in (fresh ++ noted.more))) c.in_ok-take_up.ensures.asked.pages c.in_ok-take_up.ensures.setting
          (one_more (g.C.Catalogue.state c.loop-taken.cat).pages (g.S.Source.setting c.loop-taken.source) c.args.lines.now.entries c.loop-taken.invariant.fresh c.loop-taken.lines.entries c.take_up.new.brought.items c.note_all.new.lines.entries c.loop-taken.taken (fact_view c.line_at-fact.result.now) c.loop-taken.invariant.split (omega (arith, c.loop-taken-test.true, c.len-settled.ensures.len)) c.line_at-fact.ensures c.loop-taken.invariant.closing c.in_ok-take_up.ensures.brought noted);
    }
