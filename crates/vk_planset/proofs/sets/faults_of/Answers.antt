use Rattle.std.proofs.Common.{◌≡◌, ◌∙◌, sym, ap, map, subst}
use Rattle.std.specs.Prelude.{None, slice_get}
use Rattle.vk_resolution.specs.Planner.{inputs_of}
use Rattle.vk_resolution.specs.Reasons.{facts_of}
use Rattle.vk_model.specs.FactViews.{fact_view, reasons_view}
use Rattle.vk_model.specs.FaultViews.{fault_view}
use Rattle.vk_planned.specs.Flaws.{flaw_in}
use Rattle.vk_planset.proofs.JudgingLemmas.{none_third}
use Rattle.vk_planset.proofs.sets.faults_of.Goals as goal

pub returns-then-none_kept : goal.returns-then-none_kept
returns-then-none_kept c = λ setting pages judged. ap (map fault_view) c.new.ensures.items ∙ sym (none_third (inputs_of setting pages) (facts_of (reasons_view c.args.reasons.now)) (map fact_view c.args.planned.now.needs.keys) c.args.planned.now.flaws.items judged.have
    (λ m. subst (λ l. flaw_in (slice_get l m) ≡ None) c.deref.ensures.value (c.none_kept.ensures c.if-none_kept.true m)))
