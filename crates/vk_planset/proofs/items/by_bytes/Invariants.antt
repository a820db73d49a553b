use Rattle.std.proofs.Common.{◌≡◌, take}
use Rattle.vk_planset.proofs.items.by_bytes.Given as goal

abbrev pub invariant-loop-feature : goal.invariant-loop-feature
invariant-loop-feature l = l.sorted.items ≡ take l.feature-index l.features
