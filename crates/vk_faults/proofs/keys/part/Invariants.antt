use Rattle.std.proofs.Common.{◌≡◌, take}
use Rattle.vk_faults.proofs.keys.part.Given as goal

abbrev pub invariant-loop-byte : goal.invariant-loop-byte
invariant-loop-byte l = l.part ≡ take l.byte-index l.text
