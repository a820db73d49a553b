use Rattle.std.proofs.Common.{◌≡◌, length}
use Rattle.vk_walk.specs.WalkMachine.{walk_todo}
use Rattle.vk_walk.proofs.walks.settle.Given as goal

abbrev pub invariant-loop-next : goal.invariant-loop-next
invariant-loop-next l = walk_todo l.files l.todo l.found ≡ walk_todo l.files l.initial.todo l.initial.found

abbrev pub decreases-loop-next : goal.decreases-loop-next
decreases-loop-next l = length l.todo
