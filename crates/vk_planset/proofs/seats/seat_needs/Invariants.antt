use Rattle.std.proofs.Common.{◌≡◌, [], ℕ, List, map, take}
use Rattle.vk_spec.specs.Settings.{Instance}
use Rattle.vk_model.specs.FactViews.{fact_view}
use Rattle.vk_planset.specs.Places.{place_of}
use Rattle.vk_planset.specs.Seats.{AreSeats, seated_features}
use Rattle.vk_planset.proofs.seats.seat_needs.Given as goal

abbrev pub invariant-loop-n : goal.invariant-loop-n
invariant-loop-n l = (count : ℕ) (order : List Instance) → l.places ≡ map (place_of order) (map fact_view l.needs) → AreSeats count (λ p. []) (λ p. []) l.initial.seats → AreSeats count (seated_features order (map fact_view (take l.n l.needs))) (λ p. []) l.seats
