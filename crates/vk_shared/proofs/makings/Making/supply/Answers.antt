use Rattle.std.proofs.Common.{ap, ◌∙◌}
use Rattle.vk_shared.specs.MakeMachine.{folder_at, make_left, now_left, place_of, shop_work}
use Rattle.vk_shared.proofs.makings.Making.supply.Goals as goal

pub returns-clause-left : goal.returns-clause-left
unfolding make_left
returns-clause-left c s is =
    let m = c.args.self.now in
    ap (now_left (shop_work s m.shop) m.later m.have) c.replace.ensures.after
    ∙ c.supply_at.ensures.left s m.later (ap (λ at. s (place_of m) (folder_at at)) c.replace-at.ensures.value ∙ is)
    ∙ ap (now_left (shop_work s m.shop) m.later m.have) c.replace-at.ensures.value
