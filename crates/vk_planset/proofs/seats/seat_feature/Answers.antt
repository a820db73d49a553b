use Rattle.std.proofs.Common.{[], subst}
use Rattle.std.specs.Prelude.{OnOk}
use Rattle.vk_planset.specs.Seats.{HaveMore, at_place, listed_in}
use Rattle.vk_planset.proofs.seats.seat_feature.Goals as goal

pub returns-in-Some : goal.returns-in-Some
returns-in-Some c = subst (λ o. OnOk c.put_feature.result (HaveMore (λ p. at_place p c.args.place (listed_in o)) (λ p. []) c.args.seats.now c.put_feature.new.seats)) c.in-Some.ensures c.put_feature.ensures
