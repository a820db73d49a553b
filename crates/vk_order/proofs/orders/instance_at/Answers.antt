use Rattle.std.proofs.Common.{sym, ◌∙◌}
use Rattle.vk_order.proofs.ArrangingLemmas.{view_copy}
use Rattle.vk_order.proofs.orders.instance_at.Goals as goal

pub returns : goal.returns
returns c =
    let h = c.in_ok-clone.ensures.cases in
    view_copy _ _ _ _ c.requires (sym h.0.3 ∙ h.0.4 ∙ h.0.2) (sym h.1.3 ∙ h.1.4 ∙ h.1.2)
