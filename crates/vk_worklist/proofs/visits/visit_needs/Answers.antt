use Rattle.std.proofs.Common.{◌∙◌, ◌++◌, ap}
use Rattle.std.specs.Prelude.{flat_map}
use Rattle.std.proofs.lemmas.List.{take_all}
use Rattle.vk_resolution.specs.Reasons.{fact_at}
use Rattle.vk_version.specs.AskViews.{ask_view}
use Rattle.vk_worklist.specs.Entries.{reasons_in, facts_in}
use Rattle.vk_worklist.specs.Joining.{at_need}
use Rattle.vk_worklist.proofs.visits.visit_needs.Goals as goal

pub returns : goal.returns
returns c =
    c.loop-need.invariant ∙ ap (λ l. reasons_in c.args.brought.now.items ++ flat_map (λ m. at_need (ask_view c.args.ask.now) c.args.floor m (fact_at (facts_in c.args.lines.now.entries) m)) l) (take_all c.loop-need.need-index c.args.needs.now c.loop-need-test.false)
