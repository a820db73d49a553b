use Rattle.vk_resolution.specs.Reasons.{facts_of}
use Rattle.vk_model.specs.FactViews.{reasons_view}
use Rattle.vk_choices.proofs.AskLemmas.{can_ask_ports}
use Rattle.vk_choices.proofs.ClearLemmas.{can_ask, choices_answered, conflicts_answered}
use Rattle.vk_choices.proofs.choosing.choose.Goals as goal

pub settle-requires-clause-given : goal.settle-requires-clause-given
settle-requires-clause-given g c =
    can_ask_ports (facts_of (reasons_view c.args.reasons.now)) c.in_ok-rows.rows.entries c.in_ok-rows.ensures.asks c.in_ok-rows.ensures.ordered (g.C.Catalogue.state c.args.cat.now).pages
    (can_ask (g.C.Catalogue.state c.args.cat.now).pages (reasons_view c.args.reasons.now) c.requires.clear)

pub returns-clause-choices : goal.returns-clause-choices
returns-clause-choices g c =
    choices_answered (g.C.Catalogue.state c.args.cat.now).pages (reasons_view c.args.reasons.now) c.in_ok-rows.rows.entries c.in_ok-settled.settled c.in_ok-rows.ensures.asks c.in_ok-rows.ensures.ordered c.in_ok-settled.ensures.settled
    c.unless_conflicts.result c.unless_conflicts.ensures.choices c.unless_conflicts.ensures.none

pub returns-clause-conflicts : goal.returns-clause-conflicts
returns-clause-conflicts g c =
    conflicts_answered (g.C.Catalogue.state c.args.cat.now).pages (reasons_view c.args.reasons.now) c.in_ok-rows.rows.entries c.in_ok-settled.settled c.in_ok-rows.ensures.asks c.in_ok-rows.ensures.ordered c.in_ok-settled.ensures.settled
    c.unless_conflicts.result c.unless_conflicts.ensures.told c.unless_conflicts.ensures.some
