use Rattle.std.proofs.Common.{}
use Rattle.vk_order.specs.Needs.{needs_of}
use Rattle.vk_order.specs.Peeling.{AreRight}
use Rattle.vk_order.proofs.PeelingLemmas.{IsMore}
use Rattle.vk_order.proofs.peeling.settle_more.Given as goal

abbrev pub invariant-loop-place : goal.invariant-loop-place
invariant-loop-place l = AreRight (needs_of l.items) l.heights × IsMore (needs_of l.items) l.place l.more l.initial.heights l.heights
