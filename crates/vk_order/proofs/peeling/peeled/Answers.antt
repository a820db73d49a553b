use Rattle.std.proofs.Common.{length, sym, ◌∙◌, ap}
use Rattle.vk_order.proofs.NumberLemmas.{users_at_below, needs_long}
use Rattle.vk_order.proofs.peeling.peeled.Goals as goal

pub count_down-requires-clause-users : goal.count_down-requires-clause-users
count_down-requires-clause-users c = users_at_below _ _ c.requires.users _ _ _ c.users_at.ensures (needs_long c.args.items.now ∙ sym (ap length c.deref_mut.ensures.value ∙ c.loop-done.invariant.0))
