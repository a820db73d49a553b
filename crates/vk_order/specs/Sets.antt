-- What sets of items are put in order, and what is answered in place of an order.
use Rattle.std.specs.Prelude.{◌<◌, ℕ, List, length, map, Result, IfErr, IfSome}
use Rattle.std.specs.List.{Contains}
use Rattle.vk_spec.specs.Settings as plain
use Rattle.vk_base.specs.Stops.{fault_in}
use Rattle.vk_base.specs.declared.stops.Unread.{Unread}
use Rattle.vk_resolution.specs.Keys.{Ascends}
use Rattle.vk_resolution.specs.Planning.{Item, instance_key, order_of}
use Rattle.vk_model.specs.SettingViews.{instance_view}
use Rattle.vk_order.specs.declared.orders.OrderFault.{OrderFault}
use Rattle.vk_order.specs.declared.orders.OrderFault.TheVariants.{Cycle}

-- the instances ascend, and each need is the place of an item
pub record AreItems (items : List Item) : Type 0 where
  pub ascends : Ascends instance_key (order_of items)
  pub needs : (item : Item) (n : ℕ) → Contains items item → Contains item.needs n → n < length items

-- the walk that a fault tells
abbrev pub walk_in : OrderFault → List plain.Instance
walk_in (Cycle walk) = map instance_view walk

-- where the answer is a fault, this holds of its walk
abbrev pub OnCycle : {A : Type 0} → Result A (Unread OrderFault) → (List plain.Instance → Type 0) → Type 0
OnCycle result P = IfErr result (λ e. IfSome (fault_in e) (λ fault. P (walk_in fault)))
