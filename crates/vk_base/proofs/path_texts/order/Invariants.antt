use Rattle.std.proofs.Common.{◌≡◌, length}
use Rattle.std.specs.Cmp.Lexicographic.{slice_cmp}
use Rattle.std.specs.Ordering.{nat_cmp}
use Rattle.vk_base.specs.PathTexts.{left_text}
use Rattle.vk_base.proofs.path_texts.order.Given as goal

abbrev pub invariant-bytes : goal.invariant-bytes
invariant-bytes l = slice_cmp nat_cmp (left_text l.one) (left_text l.other) ≡ slice_cmp nat_cmp (left_text l.initial.one) (left_text l.initial.other)

abbrev pub decreases-bytes : goal.decreases-bytes
decreases-bytes l = length (left_text l.one)
