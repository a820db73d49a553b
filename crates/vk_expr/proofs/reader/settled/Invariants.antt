use Rattle.std.proofs.Common.{◌≡◌, length}
use Rattle.vk_expr.specs.Reading.{settled}
use Rattle.vk_expr.specs.Views.{condition_of}
use Rattle.vk_expr.specs.ReaderViews.{chain_of, frames_of}
use Rattle.vk_expr.proofs.reader.settled.Given as goal

abbrev pub invariant-loop-alloc : goal.invariant-loop-alloc
invariant-loop-alloc l = settled (frames_of l.frames) (chain_of l.chain) (condition_of l.value) ≡ settled (frames_of l.initial.frames) (chain_of l.initial.chain) (condition_of l.initial.value)

abbrev pub decreases-loop-alloc : goal.decreases-loop-alloc
decreases-loop-alloc l = length l.frames
