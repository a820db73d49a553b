use Rattle.std.proofs.Common.{[], ℕ, List, take}
use Rattle.vk_planset.specs.Seats.{AreSeats, seated_needs}
use Rattle.vk_planset.proofs.seats.seat_edges.Given as goal

abbrev pub invariant-loop-edge : goal.invariant-loop-edge
invariant-loop-edge l = (count : ℕ) (features : ℕ → List (List ℕ)) → AreSeats count features (λ p. []) l.initial.seats → AreSeats count features (seated_needs l.places (take l.edge-index l.edges)) l.seats
