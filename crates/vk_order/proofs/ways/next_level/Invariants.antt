use Rattle.std.proofs.Common.{take, []}
use Rattle.std.specs.Prelude.{flat_map}
use Rattle.vk_order.specs.Needs.{listed_at}
use Rattle.vk_order.specs.Ways.{AreReached}
use Rattle.vk_order.proofs.ways.next_level.Given as goal

abbrev pub invariant-loop-place : goal.invariant-loop-place
invariant-loop-place l = AreReached (flat_map (listed_at l.users) (take l.place-index l.level)) l.steps l.initial.lengths l.lengths [] l.next.items
