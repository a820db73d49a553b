use Rattle.std.proofs.Common.{◌≡◌, take}
use Rattle.vk_resolution.specs.Reasons.{facts_of}
use Rattle.vk_model.specs.FactViews.{reasons_view}
use Rattle.vk_choices.specs.Asks.{HaveAsks}
use Rattle.vk_choices.proofs.asks.noted.Given as goal

abbrev pub invariant-loop-reason : goal.invariant-loop-reason
invariant-loop-reason l = record {
  line : l.line ≡ l.reason-index;
  asks : HaveAsks (facts_of (reasons_view (take l.reason-index l.reasons))) l.rows.entries;
}
