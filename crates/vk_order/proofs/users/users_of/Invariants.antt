use Rattle.std.proofs.Common.{}
use Rattle.vk_order.specs.Needs.{needs_of}
use Rattle.vk_order.proofs.UserLemmas.{AreUsersUpTo}
use Rattle.vk_order.proofs.users.users_of.Given as goal

abbrev pub invariant-loop-place : goal.invariant-loop-place
invariant-loop-place l = AreUsersUpTo l.place (needs_of l.items) l.users.items
