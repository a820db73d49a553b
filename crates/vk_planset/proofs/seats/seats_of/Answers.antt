use Rattle.std.proofs.Common.{[], ◌∙◌, length, map, subst, sym}
use Rattle.vk_model.specs.FactViews.{fact_view}
use Rattle.vk_model.specs.SettingViews.{instance_view}
use Rattle.vk_planset.specs.Seats.{AreSeats, seated_features, seated_needs}
use Rattle.vk_planset.proofs.SeatLemmas.{filled}
use Rattle.vk_planset.proofs.seats.seats_of.Goals as goal

pub returns : goal.returns
returns c =
    let count = length c.args.order.now.keys in
    let order = map instance_view c.args.order.now.keys in
    let features = seated_features order (map fact_view c.args.needs.now) in
    let places = c.deref.ensures.value ∙ c.in_ok-places.ensures in
    let none = subst (AreSeats count (λ p. []) (λ p. [])) (sym c.deref_mut.ensures.value) (subst (λ n. AreSeats n (λ p. []) (λ p. []) c.in_ok-seats.seats.items) c.len.ensures.len c.in_ok-seats.ensures) in
    let are = c.in_ok-fill.ensures count order places none in
    subst (AreSeats count features _) (sym (filled c.fill.new.seats _ c.in_ok-seats.seats.len (c.in_ok-seats.seats.ok.0 ∙ c.in_ok-seats.ensures.as_many ∙ c.len.ensures.len ∙ sym are.as_many)))
    (subst (λ l. AreSeats count features (seated_needs l c.args.edges.now) c.fill.new.seats) places are)
