use Rattle.std.proofs.Common.{length, sym, ◌∙◌, ap}
use Rattle.vk_order.proofs.NumberLemmas.{users_at_below, no_items, some_items}
use Rattle.std.proofs.Common.{refl}
use Rattle.vk_order.proofs.WayLemmas.{level_within, near_step, near_end}
use Rattle.vk_order.proofs.ways.lengths_to.Goals as goal

pub next_level-requires-clause-level : goal.next_level-requires-clause-level
next_level-requires-clause-level c = level_within _ _ _ _ _ _ _ c.requires.users c.loop-alloc.invariant c.deref.ensures.value

pub next_level-requires-clause-users : goal.next_level-requires-clause-users
next_level-requires-clause-users c n = users_at_below _ _ c.requires.users n _ _ refl (sym (ap length c.deref_mut.ensures.value ∙ c.loop-alloc.invariant.long))

pub loop-alloc-preserved : goal.loop-alloc-preserved
loop-alloc-preserved c = near_step _ _ _ _ _ _ _ _ _ _ _ _ c.requires.users c.loop-alloc.invariant c.deref_mut.ensures.value c.deref_mut.ensures.len c.deref.ensures.value (some_items _ _ _ c.loop-alloc.level.ok.0 c.is_empty.ensures c.loop-alloc-test.true) c.in_ok-level-2.ensures

pub returns : goal.returns
returns c = near_end _ _ _ _ _ (no_items _ _ _ c.loop-alloc.level.ok.0 c.is_empty.ensures c.loop-alloc-test.false) c.loop-alloc.invariant
