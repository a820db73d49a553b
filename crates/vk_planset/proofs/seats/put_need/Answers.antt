use Rattle.vk_planset.proofs.MemberLemmas.{done_means}
use Rattle.vk_planset.proofs.SeatLemmas.{need_set}
use Rattle.vk_planset.proofs.seats.put_need.Goals as goal

pub returns-then-place-seats : goal.returns-then-place-seats
returns-then-place-seats c =
    done_means c.put_need.result (need_set c.args.seats.now c.args.place c.index-seats-place.result c.put_need.new.self c.if-place-seats.true c.args.need c.put_need.ensures.features) c.put_need.ensures.needs
