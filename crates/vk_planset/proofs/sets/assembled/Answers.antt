use Rattle.std.proofs.Common.{ap, map, subst}
use Rattle.vk_model.specs.FactViews.{fact_view}
use Rattle.vk_model.specs.FaultViews.{item_view}
use Rattle.vk_planset.specs.Assembled.{AreAssembled}
use Rattle.vk_planset.proofs.sets.assembled.Goals as goal

pub returns-clause-set : goal.returns-clause-set
returns-clause-set c =
    let choices = c.args.choices.now.ports.entries in
    let items = map item_view c.in_ok-items_in.field-0 in
    subst (λ ns. AreAssembled choices ns c.args.planned.now.edges.items items) (ap (map fact_view) c.as_slice-needs.ensures.keys)
    (subst (λ es. AreAssembled choices (map fact_view c.as_slice-needs.result.now) es items) c.as_slice.ensures.value c.in_ok-items_in.ensures)
