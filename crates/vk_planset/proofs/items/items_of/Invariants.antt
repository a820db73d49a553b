use Rattle.std.proofs.Common.{◌≡◌, map, take}
use Rattle.vk_model.specs.FaultViews.{item_view}
use Rattle.vk_model.specs.SettingViews.{instance_view}
use Rattle.vk_planset.specs.Items.{made_all}
use Rattle.vk_planset.proofs.items.items_of.Given as goal

abbrev pub invariant-loop-place : goal.invariant-loop-place
invariant-loop-place l = map item_view l.items ≡ made_all l.choices.ports.entries (map instance_view (take l.place l.order.keys)) l.seats
