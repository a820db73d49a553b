use Rattle.std.proofs.Common.{map, refl}
use Rattle.vk_model.specs.FactViews.{fact_view}
use Rattle.vk_model.specs.FaultViews.{item_view}
use Rattle.vk_planset.proofs.ItemLemmas.{assembled_are}
use Rattle.vk_planset.proofs.sets.items_in.Goals as goal

pub returns : goal.returns
returns c =
    assembled_are c.args.choices.now.ports.entries (map fact_view c.args.needs.now) (map fact_view c.args.needs.now) c.args.edges.now c.args.edges.now c.args.order.now.keys c.in_ok-seats.seats.items c.deref.result.now (map item_view c.in_ok-items_of.field-0)
    refl refl c.deref.ensures.value c.requires c.in_ok-seats.ensures c.in_ok-items_of.ensures
