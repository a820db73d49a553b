use Rattle.std.proofs.Common.{◌≡◌, take, map}
use Rattle.vk_model.specs.FactViews.{fact_view}
use Rattle.vk_model.specs.SettingViews.{instance_view}
use Rattle.vk_planset.specs.Places.{place_of}
use Rattle.vk_planset.proofs.orders.places_of.Given as goal

abbrev pub invariant-loop-fact : goal.invariant-loop-fact
invariant-loop-fact l = l.places.items ≡ map (place_of (map instance_view l.order.keys)) (map fact_view (take l.fact-index l.needs))
