use Rattle.std.proofs.Common.{◌≡◌, length, map}
use Rattle.std.specs.Cmp.Lexicographic.{slice_cmp}
use Rattle.std.specs.Ordering.{nat_cmp}
use Rattle.vk_base.specs.Parts.{rank}
use Rattle.vk_base.proofs.parts.order.Given as goal

abbrev pub invariant-bytes : goal.invariant-bytes
invariant-bytes l = slice_cmp nat_cmp (map rank l.one) (map rank l.other) ≡ slice_cmp nat_cmp (map rank l.initial.one) (map rank l.initial.other)

abbrev pub decreases-bytes : goal.decreases-bytes
decreases-bytes l = length l.one
