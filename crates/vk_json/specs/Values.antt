-- A value that was read, as plain data: of one key the last member counts, and members stand in
-- byte order of their keys.
use Rattle.std.specs.Prelude.{◌^◌, ℕ, List, [], ◌∷◌, Option, Some, None}
use Rattle.std.specs.Borrow.{Bor}
use Rattle.std.specs.declared.alloc.Global.{Global}
use Rattle.json.specs.Json as json
use Rattle.json.specs.Value.{value_view}
use Rattle.json.specs.declared.value.Value.{Value}
use Rattle.serde_json.specs.Data.{Num, unsigned, Data, null, boolean, number, string, array, object}
use Rattle.serde_json.specs.Data.{Items, no_items, item, Members, no_members, member, put}
use Rattle.serde_json.specs.Read.{number_of}

-- a number; one beyond every float, which no document has, is a whole number beyond all that are read
abbrev pub number_or_large : Option Num → Num
number_or_large (Some n) = n
number_or_large None = unsigned (2 ^ 64)

abbrev mutual
  pub data_of : json.Json → Data
  data_of json.null = null
  data_of (json.boolean b) = boolean b
  data_of (json.number s) = number (number_or_large (number_of s))
  data_of (json.string s) = string s
  data_of (json.array js) = array (items_data js)
  data_of (json.object ms) = object (members_data ms no_members)

  pub items_data : json.Items → Items
  items_data json.no_items = no_items
  items_data (json.item j js) = item (data_of j) (items_data js)

  -- with the members that were found before
  pub members_data : json.Members → Members → Members
  members_data json.no_members found = found
  members_data (json.member k j ms) found = members_data ms (put k (data_of j) found)

abbrev pub view : Value Global → Data
view v = data_of (value_view v)

-- entries of a map from keys to values, as members
abbrev pub entries_view : List (Bor (List ℕ) × Bor (Value Global)) → Members
entries_view [] = no_members
entries_view (e ∷ es) = member e.0.now (view e.1.now) (entries_view es)

-- a member that stands in a document, as a key and its value
abbrev pub pair_of : Bor (List ℕ) × Value Global → List ℕ × Data
pair_of m = (m.0.now, view m.1)
