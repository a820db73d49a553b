use Rattle.std.proofs.Common.{sym, ◌∙◌}
use Rattle.vk_planset.proofs.ListingLemmas.{put_feature}
use Rattle.vk_planset.proofs.seats.Seat.put_feature.Goals as goal

pub returns-clause-features : goal.returns-clause-features
returns-clause-features c =
    put_feature c.args.self.now.features.items c.push.new.self.items c.args.feature.now c.in_ok-clone.field-0 c.in_ok-clone.ensures.cases c.in_ok-push.ensures.items (sym c.eq.ensures ∙ c.if-eq.false)
