use Rattle.std.proofs.Common.{◌≡◌, length}
use Rattle.vk_expr.specs.Reading.{cut_off}
use Rattle.vk_expr.specs.ReaderViews.{frames_of}
use Rattle.vk_expr.proofs.frames.cut_off.Given as goal

abbrev pub invariant-loop-frames : goal.invariant-loop-frames
invariant-loop-frames l = cut_off l.length (frames_of l.frames) ≡ cut_off l.initial.length (frames_of l.initial.frames)

abbrev pub decreases-loop-frames : goal.decreases-loop-frames
decreases-loop-frames l = length l.frames
