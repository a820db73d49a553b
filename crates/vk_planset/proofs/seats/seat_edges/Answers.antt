use Rattle.std.proofs.Common.{[], ◌+◌, subst, sym, take}
use Rattle.std.proofs.lemmas.List.{append-nil, take_all}
use Rattle.vk_spec.proofs.ListLemmas.{flat_map-take_more}
use Rattle.vk_planset.specs.Places.{link_of}
use Rattle.vk_planset.specs.Seats.{AreSeats, at_link, seated_needs}
use Rattle.vk_planset.proofs.SeatLemmas.{seats_step}
use Rattle.vk_planset.proofs.seats.seat_edges.Goals as goal

pub loop-edge-preserved : goal.loop-edge-preserved
loop-edge-preserved c count features are =
    seats_step count features (λ p. []) (seated_needs c.args.places.now (take c.loop-edge.edge-index c.args.edges.now)) _ c.loop-edge.seats c.seat_edge.new.seats features (seated_needs c.args.places.now (take (c.loop-edge.edge-index + 1) c.args.edges.now))
    (c.loop-edge.invariant count features are) c.in_ok-seat_edge.ensures (λ p. sym (append-nil (features p)))
    (λ p. flat_map-take_more (λ e. at_link p (link_of c.args.places.now e)) c.args.edges.now c.loop-edge.edge-index _ c.loop-edge-test.true)

pub returns : goal.returns
returns c count features are = subst (λ l. AreSeats count features (seated_needs c.args.places.now l) c.loop-edge.seats) (take_all c.loop-edge.edge-index c.args.edges.now c.loop-edge-test.false) (c.loop-edge.invariant count features are)
