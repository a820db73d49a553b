use Rattle.std.proofs.Common.{◌≡◌, map}
use Rattle.vk_spec.specs.Settings.{Setting}
use Rattle.vk_resolution.specs.Givens.{Pages}
use Rattle.vk_resolution.specs.Planner.{inputs_of}
use Rattle.vk_resolution.specs.Reasons.{facts_of}
use Rattle.vk_model.specs.FactViews.{fact_view, reasons_view}
use Rattle.vk_model.specs.FaultViews.{fault_view}
use Rattle.vk_planset.specs.Judging.{IsJudged}
use Rattle.vk_planset.proofs.JudgingLemmas.{third_so_far}
use Rattle.vk_planset.proofs.judging.third_faults.Given as goal

abbrev pub invariant-loop-reason : goal.invariant-loop-reason
invariant-loop-reason l = record {
  line : l.line ≡ l.reason-index;
  told : (setting : Setting) (pages : Pages) → IsJudged (inputs_of setting pages) (reasons_view l.reasons) l.choices.ports.entries (map fact_view l.planned.needs.keys) l.planned.edges.items l.planned.flaws.items
      → map fault_view l.faults.items ≡ third_so_far (inputs_of setting pages) (facts_of (reasons_view l.reasons)) (map fact_view l.planned.needs.keys) l.reason-index;
}
