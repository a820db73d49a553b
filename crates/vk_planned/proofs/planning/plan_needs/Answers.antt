use Rattle.std.proofs.Common.{false}
use Rattle.vk_spec.proofs.AskLemmas.{pages_after, pages_before}
use Rattle.vk_planned.specs.Bases.{IsSound}
use Rattle.vk_planned.specs.declared.bases.Basis.{Basis}
use Rattle.vk_planned.proofs.ChosenLemmas.{sound_of, kept_pages}
use Rattle.vk_planned.proofs.planning.plan_needs.Goals as goal

pub plan_from-planned-requires-clause-sound : goal.plan_from-planned-requires-clause-sound
plan_from-planned-requires-clause-sound g c =
    let b : Basis = record { setting = c.args.setting; rules = c.in_ok-rules.rules; reasons = c.args.reasons; choices = c.args.choices } in
    pages_after {failed = false} (IsSound b) c.in_ok-ask_first.ensures.asked (sound_of b (g.C.Catalogue.state c.args.cat.now).pages c.requires.clear c.requires.choices c.in_ok-ask_first.ensures.are)

pub returns-clause-graph : goal.returns-clause-graph
returns-clause-graph g c = kept_pages _ c.plan_from-planned.result c.in_ok-ask_first.ensures.asked c.plan_from-planned.ensures.graph

pub returns-clause-flaws : goal.returns-clause-flaws
returns-clause-flaws g c = kept_pages _ c.plan_from-planned.result c.in_ok-ask_first.ensures.asked c.plan_from-planned.ensures.flaws

pub returns-clause-ticks : goal.returns-clause-ticks
returns-clause-ticks g c = pages_before _ c.in_ok-ask_first.ensures.asked c.plan_from-planned.ensures.ticks
