-- The items of instances, as they are put together.
use Rattle.std.specs.Prelude.{ℕ, List, [], ◌∷◌, flat_map, Option, Some, None, bytes_eq}
use Rattle.std.specs.Map.{lookup}
use Rattle.std.specs.List.{zip}
use Rattle.vk_spec.specs.Settings.{Instance}
use Rattle.vk_resolution.specs.Keys.{in_order}
use Rattle.vk_resolution.specs.Planning.{Item, feature_key}
use Rattle.vk_choices.specs.declared.chosen.Choice.{Choice}
use Rattle.vk_planset.specs.Members.{number_key}
use Rattle.vk_planset.specs.Seats.{features_in}
use Rattle.vk_planset.specs.declared.seats.Seat.{Seat}

-- the item of an instance with this choice
abbrev pub made : Instance → Seat → Choice → Item
made i s c = record { instance = i; version = c.version; line = c.line; features = in_order feature_key (features_in s); needs = in_order number_key s.needs.items }

-- the item, if there is a choice
abbrev pub made_by : Instance → Seat → Option Choice → List Item
made_by i s None = []
made_by i s (Some c) = made i s c ∷ []

-- the item of an instance, if its port has a choice
abbrev pub made_of : List (List ℕ × Choice) → Instance × Seat → List Item
made_of choices e = made_by e.0 e.1 (lookup (bytes_eq e.0.port) choices)

-- what a function gives of a thing and of another, if there is one
abbrev pub at_end : {X Y Z : Type 0} → (X × Y → List Z) → X → Option Y → List Z
at_end f x None = []
at_end f x (Some y) = f (x, y)

-- the items of instances and their seats
abbrev pub made_all : List (List ℕ × Choice) → List Instance → List Seat → List Item
made_all choices order seats = flat_map (made_of choices) (zip order seats)
