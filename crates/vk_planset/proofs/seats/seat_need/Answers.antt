use Rattle.std.proofs.Common.{[], subst, sym}
use Rattle.std.specs.Prelude.{OnOk}
use Rattle.vk_model.specs.FactViews.{fact_view}
use Rattle.vk_planset.specs.Seats.{HaveMore, at_given, feature_of, listed_in}
use Rattle.vk_planset.proofs.seats.seat_need.Goals as goal

pub returns-in-Some : goal.returns-in-Some
returns-in-Some c = subst (λ o. OnOk c.seat_feature.result (HaveMore (λ p. at_given p o (listed_in (feature_of (fact_view c.args.fact.now)))) (λ p. []) c.args.seats.now c.seat_feature.new.seats)) (sym c.in-Some.is) c.seat_feature.ensures
