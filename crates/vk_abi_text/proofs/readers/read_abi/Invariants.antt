use Rattle.std.proofs.Common.{length}
use Rattle.vk_abi_text.specs.Adding.{Led, gathering_view}
use Rattle.vk_abi_text.proofs.readers.read_abi.Given as goal

abbrev pub invariant-loop-line : goal.invariant-loop-line
invariant-loop-line l = Led l.bytes (gathering_view l.gathering) l.last l.left l.number

abbrev pub decreases-loop-line : goal.decreases-loop-line
decreases-loop-line l = length l.left
