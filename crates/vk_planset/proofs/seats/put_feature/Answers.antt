use Rattle.vk_planset.proofs.MemberLemmas.{done_means}
use Rattle.vk_base.specs.FeatureViews.{feature_view}
use Rattle.vk_planset.specs.Seats.{listed}
use Rattle.vk_planset.proofs.SeatLemmas.{feature_set}
use Rattle.vk_planset.proofs.seats.put_feature.Goals as goal

pub returns-then-place-seats : goal.returns-then-place-seats
returns-then-place-seats c =
    done_means c.put_feature.result (feature_set c.args.seats.now c.args.place c.index-seats-place.result c.put_feature.new.self c.if-place-seats.true (listed (feature_view c.args.feature.now)) c.put_feature.ensures.needs) c.put_feature.ensures.features
