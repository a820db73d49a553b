use Rattle.std.proofs.Common.{take}
use Rattle.vk_order.specs.Needs.{IsPutInto}
use Rattle.vk_order.proofs.users.put_user.Given as goal

abbrev pub invariant-loop-need : goal.invariant-loop-need
invariant-loop-need l = IsPutInto l.place (take l.need-index l.needs) l.initial.users l.users
