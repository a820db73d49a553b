use Rattle.std.proofs.Common.{◌≡◌, ◌<◌, arith, length, map}
use Rattle.std.proofs.lemmas.List.{length-map}
use Rattle.vk_model.specs.FactViews.{fact_view, reasons_view}
use Rattle.vk_model.specs.FaultViews.{item_view}
use Rattle.vk_planset.proofs.ItemLemmas.{items_are, items_few}
use Rattle.vk_planset.proofs.SetLemmas.{set_on}
use Rattle.vk_planset.proofs.sets.set_of.Goals as goal

pub returns-clause-set : goal.returns-clause-set
returns-clause-set c = λ setting pages judged. (
    let needs = map fact_view c.args.planned.now.needs.keys in
    let long : length needs ≡ length c.args.planned.now.needs.keys = length-map c.args.planned.now.needs.keys fact_view in
    let few = c.in_ok-assembled.ensures.few in
    let small : length c.args.reasons.now < 4294967296 = c.requires.small in
    set_on setting pages (reasons_view c.args.reasons.now) c.args.choices.now.ports.entries needs c.args.planned.now.edges.items (map item_view c.in_ok-assembled.field-0.items) judged.clear judged.chosen judged.graph
    c.in_ok-assembled.ensures.set (omega (arith, long, few, small)) (c.in_ok-check.ensures.clear setting pages judged)
    )

pub returns-clause-items : goal.returns-clause-items
returns-clause-items c = items_are c.args.choices.now.ports.entries (map fact_view c.args.planned.now.needs.keys) c.args.planned.now.edges.items (map item_view c.in_ok-assembled.field-0.items) c.in_ok-assembled.ensures.set

pub returns-clause-few : goal.returns-clause-few
returns-clause-few c =
    let a = items_few c.args.choices.now.ports.entries (map fact_view c.args.planned.now.needs.keys) c.args.planned.now.edges.items (map item_view c.in_ok-assembled.field-0.items) c.in_ok-assembled.ensures.set in
    let b = length-map c.in_ok-assembled.field-0.items item_view in
    let d = length-map c.args.planned.now.needs.keys fact_view in
    let few = c.in_ok-assembled.ensures.few in
    let small : length c.args.reasons.now < 4294967296 = c.requires.small in
    omega (arith, a, b, d, few, small)
