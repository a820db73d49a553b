use Rattle.std.proofs.Common.{◌≡◌, ◌∙◌, [], length, take, drop, sym, ap, subst, arith}
use Rattle.std.specs.Prelude.{IfSome}
use Rattle.std.proofs.lemmas.List.{length-map}
use Rattle.std.proofs.lemmas.Result.{err_from_is_err_and}
use Rattle.vk_spec.proofs.AskLemmas.{asked_then}
use Rattle.vk_resolution.specs.Closing.{IsClosing}
use Rattle.vk_resolution.specs.Planner.{inputs_of}
use Rattle.vk_worklist.specs.Entries.{reasons_in, facts_in, reason_of}
use Rattle.vk_worklist.specs.Ticks.{ticks}
use Rattle.vk_worklist.proofs.EndLemmas.{stays, kept_within, level_behind, next_closing, last_closed, lines_before, few_facts}
use Rattle.vk_worklist.proofs.TickLemmas.{ticks_within}
use Rattle.vk_worklist.proofs.closing.close_levels.Goals as goal

pub returns-then-len-settled-clause-ok : goal.returns-then-len-settled-clause-ok
returns-then-len-settled-clause-ok g c =
    let lines = c.loop-lines.lines.entries in
    let all = c.take_up_level.new.lines.entries in
    last_closed (g.C.Catalogue.state c.args.cat.now).pages (g.S.Source.setting c.args.source.now) lines all c.in_ok-take_up_level.ensures.kept (omega (arith, c.len.ensures.len, c.if-len-settled.true, c.len-settled.ensures.len))
    (stays (λ s pages. IsClosing (inputs_of s pages) (reasons_in lines) (facts_in lines) (reasons_in (drop (length lines) all)))
    (sym (c.in_ok-take_up_level.ensures.asked.pages ∙ c.loop-lines.invariant.asked.pages)) (sym (c.in_ok-take_up_level.ensures.setting ∙ c.loop-lines.invariant.setting)) c.in_ok-take_up_level.ensures.closing)

pub returns-in_err-next_level-clause-asked : goal.returns-in_err-next_level-clause-asked
returns-in_err-next_level-clause-asked g c =
    let p = err_from_is_err_and c.from_residual-in_err-next_level.result c.from_residual-in_err-next_level.ensures.1 in
    rw (p.1, p.2) (asked_then c.loop-lines.invariant.asked c.in_ok-take_up_level.ensures.asked)

pub loop-lines-preserved : goal.loop-lines-preserved
loop-lines-preserved g c =
    let lines = c.loop-lines.lines.entries in
    let all = c.take_up_level.new.lines.entries in
    let new = c.next_level.new.lines.entries in
    let o = (g.C.Catalogue.state c.take_up_level.new.cat).pages in
    let s = g.S.Source.setting c.take_up_level.new.source in
    let level = level_behind lines all new c.len-settled.result c.len-settled.ensures.len c.in_ok-take_up_level.ensures.kept c.in_ok-next_level.ensures.ok in
    let taken : facts_in lines ≡ take c.len-settled.result (facts_in new) = lines_before (reasons_in lines) (reasons_in (drop (length lines) all)) (reasons_in new) c.len-settled.result level (c.len-settled.ensures.len ∙ sym (length-map lines reason_of)) in
    record {
      within = (let among = kept_within lines all c.in_ok-take_up_level.ensures.kept in omega (arith, among, c.len-settled.ensures.len, c.in_ok-next_level.ensures.len));
      distinct = c.in_ok-next_level.ensures.distinct;
      few = omega (arith, c.in_ok-next_level.ensures.len, c.in_ok-take_up_level.ensures.few);
      ticks = (let same = ap ticks taken in omega (arith, same, c.loop-lines.invariant.ticks, c.take_up_level.ensures.ticks));
      setting = c.in_ok-take_up_level.ensures.setting ∙ c.loop-lines.invariant.setting;
      asked = asked_then c.loop-lines.invariant.asked c.in_ok-take_up_level.ensures.asked;
      none = c.in_ok-take_up_level.ensures.none;
      tracks = subst (λ l. IfSome o (λ pages. g.S.Source.tracks c.take_up_level.new.source pages l)) taken c.in_ok-take_up_level.ensures.tracks;
      closing = subst (λ l. IfSome o (λ pages. IsClosing (inputs_of s pages) (reasons_in new) l [])) taken (next_closing o s (reasons_in lines) (reasons_in (drop (length lines) all)) (reasons_in new) c.in_ok-take_up_level.ensures.closing level);
    }

pub returns-in_err-take_up_level-clause-most : goal.returns-in_err-take_up_level-clause-most
returns-in_err-take_up_level-clause-most g c =
    ticks_within (facts_in c.loop-lines.lines.entries) c.args.most c.args.steps.now c.loop-lines.taken c.loop-lines.steps (few_facts c.loop-lines.lines.entries c.args.most c.loop-lines.invariant.few) c.loop-lines.invariant.ticks c.take_up_level.new.steps c.take_up_level.ensures.ticks

pub returns-then-len-settled-clause-most : goal.returns-then-len-settled-clause-most
returns-then-len-settled-clause-most g c =
    ticks_within (facts_in c.loop-lines.lines.entries) c.args.most c.args.steps.now c.loop-lines.taken c.loop-lines.steps (few_facts c.loop-lines.lines.entries c.args.most c.loop-lines.invariant.few) c.loop-lines.invariant.ticks c.take_up_level.new.steps c.take_up_level.ensures.ticks

pub returns-in_err-next_level-clause-most : goal.returns-in_err-next_level-clause-most
returns-in_err-next_level-clause-most g c =
    ticks_within (facts_in c.loop-lines.lines.entries) c.args.most c.args.steps.now c.loop-lines.taken c.loop-lines.steps (few_facts c.loop-lines.lines.entries c.args.most c.loop-lines.invariant.few) c.loop-lines.invariant.ticks c.take_up_level.new.steps c.take_up_level.ensures.ticks
