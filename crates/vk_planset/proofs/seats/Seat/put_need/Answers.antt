use Rattle.vk_planset.proofs.ListingLemmas.{put_number}
use Rattle.vk_planset.proofs.seats.Seat.put_need.Goals as goal

pub returns-clause-needs : goal.returns-clause-needs
returns-clause-needs c = put_number c.args.self.now.needs.items c.push.new.self.items c.args.place c.in_ok-push.ensures.items
