use Rattle.std.proofs.Common.{map}
use Rattle.vk_model.specs.FactViews.{fact_view, reasons_view}
use Rattle.vk_model.specs.FaultViews.{fault_view}
use Rattle.vk_planset.proofs.SetLemmas.{clear_on, faults_on}
use Rattle.vk_planset.proofs.sets.check.Goals as goal

pub returns-clause-clear : goal.returns-clause-clear
returns-clause-clear c =
    clear_on (reasons_view c.args.reasons.now) c.args.choices.now.ports.entries (map fact_view c.args.planned.now.needs.keys) c.args.planned.now.edges.items c.args.planned.now.flaws.items (map fault_view c.in_ok-faults.faults.items)
    c.in_ok-faults.ensures c.tell.result c.tell.ensures.clear

pub returns-clause-faults : goal.returns-clause-faults
returns-clause-faults c =
    faults_on (reasons_view c.args.reasons.now) c.args.choices.now.ports.entries (map fact_view c.args.planned.now.needs.keys) c.args.planned.now.edges.items c.args.planned.now.flaws.items (map fault_view c.in_ok-faults.faults.items)
    c.in_ok-faults.ensures c.tell.result c.tell.ensures.faults
