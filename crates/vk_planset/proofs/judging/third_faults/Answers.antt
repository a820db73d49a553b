use Rattle.std.proofs.Common.{◌+◌, ap, map}
use Rattle.vk_model.specs.FactViews.{fact_view}
use Rattle.vk_model.specs.FaultViews.{fault_view}
use Rattle.vk_resolution.specs.Planner.{inputs_of}
use Rattle.vk_planset.specs.Judging.{faults_in}
use Rattle.vk_planset.proofs.JudgingLemmas.{third_more, third_all}
use Rattle.vk_planset.proofs.judging.third_faults.Goals as goal

pub loop-reason-preserved : goal.loop-reason-preserved
loop-reason-preserved c = record {
  line = ap (λ n. n + 1) c.loop-reason.invariant.line;
  told = λ setting pages judged. third_more setting pages c.args.reasons.now c.args.choices.now.ports.entries (map fact_view c.args.planned.now.needs.keys) c.args.planned.now.edges.items c.args.planned.now.flaws.items judged c.loop-reason.reason-index c.reason-item.result c.loop-reason-test.true c.reason-item.is
      (c.loop-reason.line + 1) (map fault_view c.loop-reason.faults.items) (map fault_view c.push_fault.new.faults.items) (faults_in c.in_ok-fault.fault)
      (ap (λ n. n + 1) c.loop-reason.invariant.line) c.in_ok-push_fault.ensures c.in_ok-fault.ensures (c.loop-reason.invariant.told setting pages judged);
}

pub returns : goal.returns
returns c = λ setting pages judged.
    third_all (inputs_of setting pages) c.args.reasons.now (map fact_view c.args.planned.now.needs.keys) c.loop-reason.reason-index (map fault_view c.loop-reason.faults.items) c.loop-reason-test.false (c.loop-reason.invariant.told setting pages judged)
