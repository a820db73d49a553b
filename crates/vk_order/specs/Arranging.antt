-- How items are arranged: their places by height, or the walk of a cycle.
use Rattle.std.specs.Prelude.{◌≡◌, ◌<◌, ℕ, List, [], length, map, Option, slice_index_or}
use Rattle.vk_spec.specs.Settings as plain
use Rattle.vk_resolution.specs.Planning as plan
use Rattle.vk_model.specs.SettingViews.{instance_view}
use Rattle.vk_model.specs.FaultViews.{item_view}
use Rattle.vk_model.specs.declared.plans.Item.{Item}
use Rattle.vk_order.specs.declared.orders.Arrangement.{Arrangement}
use Rattle.vk_order.specs.declared.orders.Arrangement.TheVariants as arrangement
use Rattle.vk_order.specs.Needs.{needs_of}
use Rattle.vk_order.specs.Peeling.{AreHeights}
use Rattle.vk_order.specs.Ways.{AreOnNone, IsFoundWalk}
use Rattle.vk_order.specs.Moves.{IsHeightOrder, AreNewPlaces, AreRenumbered}

-- what no place has
abbrev pub nobody : plain.Instance
nobody = record { port = []; triplet = [] }

-- the instance at a place
abbrev pub name_at : List plain.Instance → ℕ → plain.Instance
name_at names k = slice_index_or names k nobody

-- the places by height, and the new place of each
pub record IsInOrder (needs : List (List ℕ)) (order places : List ℕ) : Type 0 where
  pub heights : List (Option ℕ)
  pub are : AreHeights needs heights
  pub none : AreOnNone needs heights
  pub order_is : IsHeightOrder heights order
  pub places_are : AreNewPlaces order places

-- the places by height, and the new place of each, whatever is needed
abbrev pub ArePlaced : List (Option ℕ) → Arrangement → Type 0
ArePlaced heights (arrangement.Order order places) = IsHeightOrder heights order.items × AreNewPlaces order.items places.items
ArePlaced heights (arrangement.Cycle walk) = ⊥

-- the instances of the walk that is found
pub record IsTold (needs : List (List ℕ)) (names told : List plain.Instance) : Type 0 where
  pub heights : List (Option ℕ)
  pub are : AreHeights needs heights
  pub walk : List ℕ
  pub found : IsFoundWalk needs heights walk
  pub told_is : told ≡ map (name_at names) walk

abbrev pub IsArranged : List Item → Arrangement → Type 0
IsArranged items (arrangement.Order order places) = IsInOrder (needs_of items) order.items places.items
IsArranged items (arrangement.Cycle walk) = IsTold (needs_of items) (plan.order_of (map item_view items)) (map instance_view walk)

-- an item, but for its needs
pub record IsSameBut (places : List ℕ) (old new : plan.Item) : Type 0 where
  pub instance : new.instance ≡ old.instance
  pub version : new.version ≡ old.version
  pub line : new.line ≡ old.line
  pub features : new.features ≡ old.features
  pub needs : AreRenumbered places old.needs new.needs

-- the items, each with its needs renumbered
pub record AreSameBut (places : List ℕ) (old new : List plan.Item) : Type 0 where
  pub long : length new ≡ length old
  pub each : (k : ℕ) (d e : plan.Item) → k < length old → IsSameBut places (slice_index_or old k d) (slice_index_or new k e)
