use Rattle.std.proofs.Common.{refl, ap, sym, subst}
use Rattle.std.specs.Prelude.{OnOk}
use Rattle.vk_version.specs.AskViews.{ask_view}
use Rattle.vk_model.specs.FactViews.{fact_view}
use Rattle.vk_choices.specs.Asks.{ask_in, IsNoted}
use Rattle.vk_choices.proofs.AskLemmas.{floor_noted, nothing_noted}
use Rattle.vk_choices.proofs.asks.note_fact.Goals as goal

pub returns-in-Need : goal.returns-in-Need
returns-in-Need c = nothing_noted (fact_view c.args.fact.now) c.args.line c.args.rows.now.entries (λ p. ap (λ f. ask_in p (fact_view f)) c.in-Need.is)

pub returns-in-Floor : goal.returns-in-Floor
returns-in-Floor c =
    subst (λ f. OnOk c.add_asked.result (IsNoted (fact_view f) c.args.line c.args.rows.now.entries c.add_asked.new.rows.entries)) (sym c.in-Floor.is)
    (floor_noted c.in-Floor.port _ (ask_view c.in-Floor.ask) c.args.line c.args.rows.now.entries c.add_asked.new.rows.entries c.add_asked.result refl c.add_asked.ensures)

pub returns-in-Visit : goal.returns-in-Visit
returns-in-Visit c = nothing_noted (fact_view c.args.fact.now) c.args.line c.args.rows.now.entries (λ p. ap (λ f. ask_in p (fact_view f)) c.in-Visit.is)
