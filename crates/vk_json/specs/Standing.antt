-- Where a place stands in a value.
use Rattle.std.specs.Prelude.{◌≡◌, ◌≢◌, ◌++◌, ℕ, List, [], None, Some, slice_get}
use Rattle.std.specs.List.{Contains}
use Rattle.serde_json.specs.Data.{Data, Items, Members}
use Rattle.serde_json.specs.Data as json
use Rattle.serde_json.specs.Find.{get}
use Rattle.vk_json.specs.declared.faults.FileFault.{FileFault}
use Rattle.vk_json.specs.declared.faults.Why.{Why}
use Rattle.vk_json.specs.declared.faults.Why.TheVariants as why
use Rattle.vk_json.specs.Looks.{list_of}
use Rattle.vk_json.specs.Places.{member_step, item_step}
use Rattle.vk_json.specs.Readings.{pairs_of}

-- the steps of a place lead from a value to one in it
pub data Leads : List ℕ → Data → Data → Type 0 where
  itself : (d : Data) → Leads [] d d
  by_member : (members : Members) (key rest : List ℕ) (d found : Data)
      → Contains (pairs_of members) (key, d) → Leads rest d found
      → Leads (member_step key ++ rest) (json.object members) found
  by_item : (items : Items) (n : ℕ) (rest : List ℕ) (d found : Data)
      → slice_get (list_of items) n ≡ Some d → Leads rest d found
      → Leads (item_step n ++ rest) (json.array items) found

-- a fault is told at a value that is there, and as missing at the key of a member that isn't
pub data StandsIn : Data → FileFault → Type 0 where
  at_value : (d found : Data) (place : List ℕ) (what : Why)
      → what ≢ why.Missing → Leads place d found
      → StandsIn d (record { place = place; why = what })
  at_key : (d found : Data) (place key : List ℕ) → Leads place d found → get key found ≡ None
      → StandsIn d (record { place = place ++ member_step key; why = why.Missing })
