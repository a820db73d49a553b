use Rattle.std.proofs.Common.{length}
use Rattle.vk_version.proofs.NumberLemmas.{Leaves}
use Rattle.vk_version.proofs.numbers.push_numbers.Given as goal

abbrev pub invariant-parts : goal.invariant-parts
invariant-parts l = Leaves l.fn.numbers l.fn.text l.numbers l.left

abbrev pub decreases-parts : goal.decreases-parts
decreases-parts l = length l.left
