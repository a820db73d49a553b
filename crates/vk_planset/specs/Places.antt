-- Where the instances of needs stand in their order, and which of them an edge joins.
use Rattle.std.specs.Prelude.{◌==◌, ℕ, Bool, List, filter, flat_map, is_some, bytes_eq, [], ◌∷◌, Option, Some, None, option_and_then, slice_get, nat_lt, position, if◌then◌else◌}
use Rattle.vk_spec.specs.Settings.{Instance}
use Rattle.vk_resolution.specs.Settings.{same_instance}
use Rattle.vk_resolution.specs.Asking.{Fact}
use Rattle.vk_resolution.specs.Keys.{in_order}
use Rattle.vk_resolution.specs.Planning.{instance_key, needed_in}
use Rattle.std.specs.Map.{lookup}
use Rattle.vk_choices.specs.declared.chosen.Choice.{Choice}

-- whether the port of an instance has a choice
abbrev pub has_choice : List (List ℕ × Choice) → Instance → Bool
has_choice choices i = is_some (lookup (bytes_eq i.port) choices)

-- the instance of a need, if its port has a choice
abbrev pub chosen_in : List (List ℕ × Choice) → Fact → List Instance
chosen_in choices x = filter (has_choice choices) (needed_in x)

-- the instances of needs whose ports have choices, by port and triplet
abbrev pub seat_order : List (List ℕ × Choice) → List Fact → List Instance
seat_order choices needs = in_order instance_key (flat_map (chosen_in choices) needs)

-- a place that fits into 32 bits
abbrev pub fitting : ℕ → Option ℕ
fitting n = if nat_lt n 4294967296 then Some n else None

-- the place of an instance, if one is given
abbrev pub place_among : List Instance → List Instance → Option ℕ
place_among order [] = None
place_among order (i ∷ is) = option_and_then fitting (position (same_instance i) order)

-- the place of a need's instance
abbrev pub place_of : List Instance → Fact → Option ℕ
place_of order x = place_among order (needed_in x)

-- the place that a table has for a need
abbrev pub place_in : Option (Option ℕ) → Option ℕ
place_in None = None
place_in (Some place) = place

-- from one instance to another
abbrev pub link : Option ℕ → Option ℕ → Option (ℕ × ℕ)
link None q = None
link (Some p) None = None
link (Some p) (Some q) = if p == q then None else Some (p, q)

-- the instances that an edge between needs joins, if they are two
abbrev pub link_of : List (Option ℕ) → ℕ × ℕ → Option (ℕ × ℕ)
link_of places edge = link (place_in (slice_get places edge.0)) (place_in (slice_get places edge.1))
