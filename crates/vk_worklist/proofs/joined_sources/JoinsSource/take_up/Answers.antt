use Rattle.std.proofs.Common.{◌+◌, take, refl}
use Rattle.vk_spec.proofs.OptionLemmas.{of_both}
use Rattle.vk_resolution.specs.Planner.{inputs_of}
use Rattle.vk_model.specs.FactViews.{fact_view}
use Rattle.vk_worklist.specs.Entries.{reasons_in, facts_in}
use Rattle.vk_worklist.specs.Rows.{AreRows}
use Rattle.vk_worklist.proofs.EndLemmas.{stays}
use Rattle.vk_worklist.proofs.SourceLemmas.{rows_same, rows_both, none_more, both_more, within_facts}
use Rattle.vk_worklist.proofs.joined_sources.JoinsSource.take_up.Goals as goal

pub returns-in_ok-join-in-Some-clause-tracks : goal.returns-in_ok-join-in-Some-clause-tracks
returns-in_ok-join-in-Some-clause-tracks g c =
    let o = (g.C.Catalogue.state c.args.cat.now).pages in
    let lines = facts_in c.args.lines.now.entries in
    let n = c.args.n in
    let y = fact_view c.args.fact.now in
    of_both o c.in_ok-place.ensures.tracks
    (stays (λ s pages. AreRows (inputs_of s pages) (g.A.Asker.seats c.ask.new.self) c.join.new.rows.items (take (n + 1) lines)) refl c.in_ok-place.ensures.setting
    (rows_both lines n y (within_facts c.args.lines.now.entries n c.requires.within) c.requires.distinct c.requires.at o (g.A.Asker.setting c.args.self.now.asker) (g.A.Asker.seats c.args.self.now.asker) (g.A.Asker.seats c.ask.new.self)
    c.in_ok-place.ensures.seats c.in_ok-place.field-0 c.in_ok-place.ensures.joins
    c.in-Some.place c.in-Some.is c.in_ok-place.ensures.seat c.args.self.now.rows.items c.join.new.rows.items c.in_ok-join-in-Some.ensures.few c.in_ok-join-in-Some.ensures.needs c.in_ok-join-in-Some.ensures.floors
    (of_both o c.requires.tracks c.requires.tracks (λ pages kept also. also.1))))
    (λ pages asker rows. (asker, rows))

pub returns-in_ok-join-in-Some-clause-brought : goal.returns-in_ok-join-in-Some-clause-brought
returns-in_ok-join-in-Some-clause-brought g c =
    let o = (g.C.Catalogue.state c.args.cat.now).pages in
    let lines = facts_in c.args.lines.now.entries in
    let n = c.args.n in
    let y = fact_view c.args.fact.now in
    both_more lines n y (within_facts c.args.lines.now.entries n c.requires.within) c.requires.distinct c.requires.at o (g.A.Asker.setting c.args.self.now.asker) (g.A.Asker.seats c.args.self.now.asker) (g.A.Asker.seats c.ask.new.self)
    c.in_ok-place.ensures.seats c.in_ok-place.field-0 c.in_ok-place.ensures.joins
    c.in-Some.place c.in-Some.is c.in_ok-place.ensures.seat c.args.self.now.rows.items (reasons_in c.ask.new.brought.items) (reasons_in c.join.new.brought.items) (rw c.requires.none at c.in_ok-place.ensures.alone)
    (of_both o c.requires.tracks c.requires.tracks (λ pages kept also. also.1)) c.in_ok-join-in-Some.ensures.brought

pub returns-in-None-clause-tracks : goal.returns-in-None-clause-tracks
returns-in-None-clause-tracks g c =
    let o = (g.C.Catalogue.state c.args.cat.now).pages in
    let lines = facts_in c.args.lines.now.entries in
    let n = c.args.n in
    let y = fact_view c.args.fact.now in
    of_both o c.in_ok-place.ensures.tracks
    (stays (λ s pages. AreRows (inputs_of s pages) (g.A.Asker.seats c.ask.new.self) c.args.self.now.rows.items (take (n + 1) lines)) refl c.in_ok-place.ensures.setting
    (rows_same lines n y (within_facts c.args.lines.now.entries n c.requires.within) c.requires.distinct c.requires.at o (g.A.Asker.setting c.args.self.now.asker) (g.A.Asker.seats c.args.self.now.asker) (g.A.Asker.seats c.ask.new.self)
    c.in_ok-place.ensures.seats c.in_ok-place.field-0 c.in_ok-place.ensures.joins
    c.args.self.now.rows.items c.in-None.is (of_both o c.requires.tracks c.requires.tracks (λ pages kept also. also.1))))
    (λ pages asker rows. (asker, rows))

pub returns-in-None-clause-brought : goal.returns-in-None-clause-brought
returns-in-None-clause-brought g c =
    let o = (g.C.Catalogue.state c.args.cat.now).pages in
    let lines = facts_in c.args.lines.now.entries in
    let n = c.args.n in
    let y = fact_view c.args.fact.now in
    none_more lines n y (within_facts c.args.lines.now.entries n c.requires.within) c.requires.distinct c.requires.at o (g.A.Asker.setting c.args.self.now.asker) (g.A.Asker.seats c.args.self.now.asker) (g.A.Asker.seats c.ask.new.self)
    c.in_ok-place.ensures.seats c.in_ok-place.field-0 c.in_ok-place.ensures.joins
    c.args.self.now.rows.items (reasons_in c.ask.new.brought.items) c.in-None.is (rw c.requires.none at c.in_ok-place.ensures.alone) (of_both o c.requires.tracks c.requires.tracks (λ pages kept also. also.1))
