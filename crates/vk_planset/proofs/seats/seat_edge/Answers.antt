use Rattle.std.proofs.Common.{[], subst}
use Rattle.std.specs.Prelude.{OnOk}
use Rattle.vk_planset.specs.Seats.{HaveMore, at_link}
use Rattle.vk_planset.proofs.seats.seat_edge.Goals as goal

pub returns-in-Some : goal.returns-in-Some
returns-in-Some c = subst (λ o. OnOk c.put_need.result (HaveMore (λ p. []) (λ p. at_link p o) c.args.seats.now c.put_need.new.seats)) c.in-Some.ensures c.put_need.ensures
