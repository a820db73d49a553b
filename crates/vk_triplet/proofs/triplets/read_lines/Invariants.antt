use Rattle.std.proofs.Common.{length}
use Rattle.std.specs.Str.{IsUtf8}
use Rattle.vk_triplet.proofs.ReadLemmas.{Leaves}
use Rattle.vk_triplet.proofs.triplets.read_lines.Given as goal

abbrev pub invariant-lines : goal.invariant-lines
invariant-lines l = record { text : IsUtf8 l.left; read : Leaves l.fn.text l.vars l.n l.left }

abbrev pub decreases-lines : goal.decreases-lines
decreases-lines l = length l.left
