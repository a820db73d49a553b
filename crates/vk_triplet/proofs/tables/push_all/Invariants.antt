use Rattle.std.proofs.Common.{◌≡◌, ◌++◌, take}
use Rattle.vk_triplet.specs.RowViews.{texts_of}
use Rattle.vk_triplet.proofs.tables.push_all.Given as goal

abbrev pub invariant-loop-mark : goal.invariant-loop-mark
invariant-loop-mark l = l.names ≡ l.initial.names ++ texts_of (take l.mark-index l.marks)
