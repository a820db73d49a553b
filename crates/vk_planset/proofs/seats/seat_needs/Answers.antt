use Rattle.std.proofs.Common.{[], refl, ap, sym, ◌∙◌, ◌++◌, ◌+◌, map, take, subst}
use Rattle.std.specs.Prelude.{slice_get}
use Rattle.std.proofs.lemmas.List.{take_all}
use Rattle.vk_model.specs.FactViews.{fact_view}
use Rattle.vk_planset.specs.Places.{place_in, place_of}
use Rattle.vk_planset.specs.Seats.{AreSeats, at_given, feature_of, listed_in, seated_features}
use Rattle.vk_planset.proofs.OrderLemmas.{taken_more}
use Rattle.vk_planset.proofs.SeatLemmas.{seats_step, placed_at}
use Rattle.vk_planset.proofs.seats.seat_needs.Goals as goal

pub loop-n-preserved : goal.loop-n-preserved
loop-n-preserved c count order is are =
    let fact = fact_view c.index-needs-n.result in
    let so_far = map fact_view (take c.loop-n.n c.args.needs.now) in
    let next = map fact_view (take (c.loop-n.n + 1) c.args.needs.now) in
    let place = c.place_in.ensures ∙ ap (λ l. place_in (slice_get l c.loop-n.n)) is ∙ placed_at fact_view (place_of order) c.args.needs.now c.loop-n.n c.index-needs-n.result c.loop-n-test.true c.index-needs-n.is in
    seats_step count (seated_features order so_far) (λ p. at_given p c.place_in.result (listed_in (feature_of fact))) (λ p. []) (λ p. []) c.loop-n.seats c.seat_need.new.seats (seated_features order next) (λ p. [])
    (c.loop-n.invariant count order is are) c.in_ok-seat_need.ensures
    (λ p. taken_more fact_view (λ x. at_given p (place_of order x) (listed_in (feature_of x))) c.args.needs.now c.loop-n.n c.index-needs-n.result c.loop-n-test.true c.index-needs-n.is
    ∙ ap (λ o. seated_features order so_far p ++ at_given p o (listed_in (feature_of fact))) (sym place))
    (λ p. refl)

pub returns : goal.returns
returns c count order is are = subst (λ l. AreSeats count (seated_features order (map fact_view l)) (λ p. []) c.loop-n.seats) (take_all c.loop-n.n c.args.needs.now c.loop-n-test.false) (c.loop-n.invariant count order is are)
