use Rattle.std.proofs.Common.{◌∙◌}
use Rattle.std.proofs.lemmas.List.Filters.{dedup_is}
use Rattle.vk_order.proofs.MoveLemmas.{renumbered_is}
use Rattle.vk_order.proofs.moves.renumbered.Goals as goal

pub returns : goal.returns
returns c = renumbered_is _ _ _ _ _ _ c.loop-need.invariant c.loop-need-test.false c.sort_unstable.ensures.permutation c.sort_unstable.ensures.sorted (c.from_vec.ensures ∙ dedup_is _ _ _ c.dedup.ensures.filtered)
