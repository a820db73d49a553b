use Rattle.std.proofs.Common.{refl, take, ◌+◌}
use Rattle.vk_model.specs.FactViews.{fact_view}
use Rattle.vk_worklist.specs.Entries.{facts_in}
use Rattle.vk_close.proofs.TrackLemmas.{tracks_more}
use Rattle.vk_close.proofs.page_askers.PageAskerAsker.ask.Goals as goal

pub returns-clause-tracks : goal.returns-clause-tracks
returns-clause-tracks g c =
    tracks_more (g.C.Catalogue.state c.args.cat.now).pages c.args.self.now c.see.new.self _ c.in_ok-seen.seen.clear (fact_view c.args.fact.now) (take c.args.n (facts_in c.args.lines.now.entries)) (take (c.args.n + 1) (facts_in c.args.lines.now.entries))
    c.requires.at c.in_ok-seen.ensures.setting c.in_ok-seen.ensures.clean refl c.requires.tracks c.in_ok-seen.ensures.kept c.in_ok-seen.ensures.clear
