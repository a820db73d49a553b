use Rattle.std.proofs.Common.{sym, ◌∙◌}
use Rattle.vk_order.proofs.NumberLemmas.{below_at, needs_long}
use Rattle.vk_order.proofs.components.stands_above.Goals as goal

pub are_lower-requires : goal.are_lower-requires
are_lower-requires c = below_at _ _ _ _ c.needs_at.ensures c.requires.places (needs_long c.args.items.now ∙ sym c.requires.long)
