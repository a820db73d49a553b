use Rattle.std.proofs.Common.{refl, sym}
use Rattle.vk_order.proofs.NumberLemmas.{users_at_below}
use Rattle.vk_order.proofs.components.components_of.Goals as goal

pub done_of-requires-clause-users : goal.done_of-requires-clause-users
done_of-requires-clause-users c n = users_at_below _ _ c.requires.users n _ _ refl (sym c.requires.users.long)
