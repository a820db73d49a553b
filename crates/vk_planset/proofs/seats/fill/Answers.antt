use Rattle.std.proofs.Common.{map}
use Rattle.vk_model.specs.FactViews.{fact_view}
use Rattle.vk_planset.specs.Seats.{seated_features}
use Rattle.vk_planset.proofs.MemberLemmas.{done_means}
use Rattle.vk_planset.proofs.seats.fill.Goals as goal

pub returns : goal.returns
returns c =
    done_means c.seat_edges.result (λ more count order is are. more count (seated_features order (map fact_view c.args.needs.now)) (c.in_ok-seat_needs.ensures count order is are)) c.seat_edges.ensures
