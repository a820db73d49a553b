-- A list whose items each have a key of their own.
use Rattle.std.specs.Prelude.{ℕ, List, [], map}
use Rattle.vk_spec.specs.Reading.{◌>>=◌, or_fault, read_after}
use Rattle.vk_json.specs.declared.faults.Why.TheVariants as why
use Rattle.vk_json.specs.Looks.{items_of}
use Rattle.vk_json.specs.Places.{here, inside, item_step}
use Rattle.vk_json.specs.Readings.{Reading}

-- how an item is read, by the keys of those before it
abbrev pub NewReading : Type 0 → Type 0 → Type 0
NewReading K A = List K → Reading A

-- an item, after those before it
abbrev pub new_item_at : {K A : Type 0} → (A → K) → NewReading K A → List A → ℕ → Reading A
new_item_at key f earlier n d = inside (item_step n) (f (map key earlier) d)

-- a list, item by item
unfoldable pub each_new_item : {K A : Type 0} → (A → K) → NewReading K A → Reading (List A)
each_new_item key f d =
    or_fault (here why.List) (items_of d) >>= read_after (new_item_at key f) [] 0
