use Rattle.std.proofs.Common.{◌≡◌, take}
use Rattle.vk_entry.proofs.DifferenceLemmas.{seen}
use Rattle.vk_entry.proofs.differences.in_order.Given as goal

abbrev pub invariant-loop-path : goal.invariant-loop-path
invariant-loop-path l = seen l.refs.items ≡ take l.path-index l.paths
