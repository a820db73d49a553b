-- The items of needs and of the edges between them.
use Rattle.std.specs.Prelude.{◌≡◌, ◌≢◌, ℕ, List, [], map, length}
use Rattle.vk_resolution.specs.Asking.{Fact}
use Rattle.vk_resolution.specs.Consequences.{Inputs}
use Rattle.vk_resolution.specs.Faults as plain
use Rattle.vk_resolution.specs.Lines.{fault_line}
use Rattle.vk_resolution.specs.Outcomes.{lines_of}
use Rattle.vk_resolution.specs.Planning.{Item}
use Rattle.vk_choices.specs.declared.chosen.Choice.{Choice}
use Rattle.vk_planned.specs.Graphs.{IsGraph}
use Rattle.vk_planset.specs.Places.{seat_order, place_of}
use Rattle.vk_planset.specs.Seats.{AreSeats, seated_features, seated_needs}
use Rattle.vk_planset.specs.Items.{made_all}
use Rattle.vk_planset.specs.declared.seats.Seat.{Seat}

-- the items are those of the instances of the needs, each with what belongs to it
pub record AreAssembled (choices : List (List ℕ × Choice)) (needs : List Fact) (edges : List (ℕ × ℕ)) (items : List Item) : Type 0 where
  pub seats : List Seat
  pub are_seats : AreSeats (length (seat_order choices needs)) (seated_features (seat_order choices needs) needs) (seated_needs (map (place_of (seat_order choices needs)) needs) edges) seats
  pub made : items ≡ made_all choices (seat_order choices needs) seats

-- the needs that are planned, and the edges between them
abbrev pub IsPlannedGraph : Inputs → List Fact → List Fact → List (ℕ × ℕ) → Type 0
IsPlannedGraph inputs facts needs edges = (planned : List Fact) × IsGraph inputs facts planned needs edges

-- the lines of some faults, in order
pub record IsTold (faults lines : List plain.Fault) : Type 0 where
  pub some : faults ≢ []
  pub told : lines ≡ lines_of fault_line faults
