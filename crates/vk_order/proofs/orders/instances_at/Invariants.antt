use Rattle.std.proofs.Common.{◌≡◌, take, map}
use Rattle.vk_resolution.specs.Planning.{order_of}
use Rattle.vk_model.specs.SettingViews.{instance_view}
use Rattle.vk_model.specs.FaultViews.{item_view}
use Rattle.vk_order.specs.Arranging.{name_at}
use Rattle.vk_order.proofs.orders.instances_at.Given as goal

abbrev pub invariant-loop-place : goal.invariant-loop-place
invariant-loop-place l = map instance_view l.told ≡ map (name_at (order_of (map item_view l.items))) (take l.place-index l.places)
