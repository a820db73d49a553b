-- What a value has: its items as a list, its keys, its number.
use Rattle.std.specs.Prelude.{◌^◌, ℕ, List, [], ◌∷◌, Option, Some, None, nat_lt}
use Rattle.std.specs.Prelude.{option_map, option_and_then, if◌then◌else◌}
use Rattle.serde_json.specs.Data.{Data, Items, no_items, item, Members, no_members, member}
use Rattle.serde_json.specs.Find.{as_array, as_object, as_number, as_u64}

-- items as a list
abbrev pub list_of : Items → List Data
list_of no_items = []
list_of (item d ds) = d ∷ list_of ds

-- the items of a list, or none for any other value
abbrev pub items_of : Data → Option (List Data)
items_of d = option_map list_of (as_array d)

-- the keys of members, which stand in byte order
abbrev pub names_of : Members → List (List ℕ)
names_of no_members = []
names_of (member k d ms) = k ∷ names_of ms

-- the keys of an object, or none for any other value
abbrev pub keys_of : Data → Option (List (List ℕ))
keys_of d = option_map names_of (as_object d)

-- a whole number below 2^32
abbrev pub if_small : ℕ → Option ℕ
if_small n = if nat_lt n (2 ^ 32) then Some n else None

-- a whole number from 0 to 2^32 - 1, or none for any other value
abbrev pub number_of : Data → Option ℕ
number_of d = option_and_then if_small (option_and_then as_u64 (as_number d))
