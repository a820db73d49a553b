use Rattle.std.proofs.Common.{◌≡◌, ◌++◌, take}
use Rattle.std.specs.Prelude.{flat_map}
use Rattle.vk_resolution.specs.Reasons.{fact_at}
use Rattle.vk_version.specs.AskViews.{ask_view}
use Rattle.vk_worklist.specs.Entries.{reasons_in, facts_in}
use Rattle.vk_worklist.specs.Joining.{at_need}
use Rattle.vk_worklist.proofs.visits.visit_needs.Given as goal

abbrev pub invariant-loop-need : goal.invariant-loop-need
invariant-loop-need l = reasons_in l.brought.items ≡ reasons_in l.initial.brought.items ++ flat_map (λ m. at_need (ask_view l.ask) l.floor m (fact_at (facts_in l.lines.entries) m)) (take l.need-index l.needs)
