use Rattle.std.proofs.Common.{take}
use Rattle.vk_order.specs.Ways.{AreReached}
use Rattle.vk_order.proofs.ways.reach.Given as goal

abbrev pub invariant-loop-place : goal.invariant-loop-place
invariant-loop-place l = AreReached (take l.place-index l.places) l.steps l.initial.lengths l.lengths l.initial.next.items l.next.items
