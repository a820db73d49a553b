use Rattle.std.proofs.Common.{[], ◌+◌, subst, sym}
use Rattle.vk_planset.specs.Seats.{AreSeats}
use Rattle.vk_planset.proofs.SeatLemmas.{seats_push}
use Rattle.vk_planset.proofs.seats.seats_for.Goals as goal

pub loop-preserved : goal.loop-preserved
loop-preserved c =
    subst (AreSeats (c.loop.counter + 1) (λ p. []) (λ p. [])) (sym c.in_ok-push.ensures.items) (seats_push c.loop.counter c.loop.seats.items c.new.result c.loop.invariant c.new.ensures.features c.new.ensures.needs)
