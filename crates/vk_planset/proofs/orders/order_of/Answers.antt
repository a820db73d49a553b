use Rattle.std.proofs.Common.{map}
use Rattle.vk_model.specs.FactViews.{fact_view}
use Rattle.vk_planset.specs.Places.{chosen_in}
use Rattle.vk_planset.proofs.OrderLemmas.{order_is}
use Rattle.vk_planset.proofs.orders.order_of.Goals as goal

pub returns : goal.returns
returns c =
    order_is (chosen_in c.args.choices.now.ports.entries) (map fact_view c.args.needs.now) c.in_ok-order.order.keys c.sort_unstable.new.self.keys c.in_ok-order.ensures c.in_ok-sort_unstable.ensures.reordered.0 c.in_ok-sort_unstable.ensures.sorted c.in_ok-sort_unstable.ensures.unique
