use Rattle.std.proofs.lemmas.List.Filters.{dedup_is}
use Rattle.std.proofs.lemmas.List.Kept.{IsStrictlySortedBy-dedup, Contains-dedup, Contains-from_dedup}
use Rattle.std.proofs.lemmas.List.Sorted.{Contains-permutation, IsPermutation-sym}
use Rattle.vk_root.proofs.OffSetLemmas.{same_is}
use Rattle.vk_root.proofs.InstanceOrderLemmas.{order_total, order_ties, same_equivalence, sorted_ascends}
use Rattle.vk_root.proofs.off_lists.put_in_order.Goals as goal

pub returns-clause-order : goal.returns-clause-order
returns-clause-order c = rw (dedup_is _ _ _ c.dedup.ensures.filtered) (sorted_ascends _ (IsStrictlySortedBy-dedup order_total order_ties _ c.sort_unstable.ensures.sorted))

pub returns-clause-keeps : goal.returns-clause-keeps
returns-clause-keeps c i h = rw (dedup_is _ _ _ c.dedup.ensures.filtered) (Contains-dedup same_equivalence same_is _ i (Contains-permutation _ _ i c.sort_unstable.ensures.permutation h))

pub returns-clause-adds_none : goal.returns-clause-adds_none
returns-clause-adds_none c i h =
    Contains-permutation _ _ i (IsPermutation-sym _ _ c.sort_unstable.ensures.permutation) (Contains-from_dedup _ _ i (rw (dedup_is _ _ _ c.dedup.ensures.filtered) at h))
