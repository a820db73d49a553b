use Rattle.std.proofs.Common.{◌-◌, length}
use Rattle.vk_order.specs.Needs.{needs_of}
use Rattle.vk_order.specs.Ways.{AreNear}
use Rattle.vk_order.proofs.ways.lengths_to.Given as goal

abbrev pub invariant-loop-alloc : goal.invariant-loop-alloc
invariant-loop-alloc l = AreNear (needs_of l.items) l.first l.depth l.lengths.items l.level.items

abbrev pub decreases-loop-alloc : goal.decreases-loop-alloc
decreases-loop-alloc l = length l.items - l.depth
