use Rattle.std.proofs.Common.{[]}
use Rattle.vk_planset.specs.Seats.{AreSeats}
use Rattle.vk_planset.proofs.seats.seats_for.Given as goal

abbrev pub invariant-loop : goal.invariant-loop
invariant-loop l = AreSeats l.counter (λ p. []) (λ p. []) l.seats.items
