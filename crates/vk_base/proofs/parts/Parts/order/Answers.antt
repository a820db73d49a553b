use Rattle.std.proofs.Common.{◌∙◌}
use Rattle.vk_base.proofs.PartLemmas.{order_parts}
use Rattle.vk_base.proofs.parts.Parts.order.Goals as goal

pub returns : goal.returns
returns c =
    rw (← c.self.view_is, ← c.other.view_is, ← c.as_bytes.ensures.value, ← c.as_bytes-2.ensures.value)
    (c.order.ensures ∙ order_parts c.as_bytes.result.now c.as_bytes-2.result.now)
