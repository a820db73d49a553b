use Rattle.std.proofs.Common.{length, sym, ◌∙◌, ap}
use Rattle.vk_order.specs.Ways.{by_components}
use Rattle.vk_order.proofs.NumberLemmas.{below_at}
use Rattle.vk_order.proofs.cycles.walk_at.Goals as goal

pub returns-then-stands_above : goal.returns-then-stands_above
returns-then-stands_above c = by_components _ c.requires.components (c.stands_above.ensures c.if-stands_above.true)

pub closest-requires : goal.closest-requires
closest-requires c = below_at _ _ _ _ c.needs_at.ensures c.requires.places (sym (ap length c.deref.ensures.value ∙ c.in_ok-lengths.ensures.long))
