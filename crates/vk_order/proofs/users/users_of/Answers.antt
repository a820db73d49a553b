use Rattle.std.proofs.Common.{◌≡◌, length, sym, ◌∙◌, ap, arith}
use Rattle.vk_order.proofs.NumberLemmas.{below_at, needs_long}
use Rattle.vk_order.proofs.UserLemmas.{users_step, users_end}
use Rattle.vk_order.proofs.users.users_of.Goals as goal

pub put_user-requires : goal.put_user-requires
put_user-requires c = below_at _ _ _ _ c.needs_at.ensures c.requires.places (sym (ap length c.deref_mut.ensures.value ∙ c.loop-place.invariant.long))

pub loop-place-preserved : goal.loop-place-preserved
loop-place-preserved c = users_step _ _ _ _ _ _ _ _ c.needs_at.ensures c.deref_mut.ensures.value c.deref_mut.ensures.len c.loop-place.invariant c.in_ok-put_user.ensures

pub returns : goal.returns
returns c = let all : length c.args.items.now ≡ c.loop-place.place = omega arith in users_end _ _ _ (needs_long c.args.items.now ∙ all) c.loop-place.invariant
