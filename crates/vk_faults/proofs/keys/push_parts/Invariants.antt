use Rattle.std.proofs.Common.{◌≡◌, ◌++◌, length}
use Rattle.vk_faults.proofs.keys.push_parts.Given as goal

abbrev pub invariant-loop-part : goal.invariant-loop-part
invariant-loop-part l = l.key ++ l.parts ≡ l.initial.key ++ l.initial.parts

abbrev pub decreases-loop-part : goal.decreases-loop-part
decreases-loop-part l = length l.parts
