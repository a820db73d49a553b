use Rattle.std.proofs.Common.{◌≡◌, drop}
use Rattle.vk_tree.proofs.listing.parts_after.Given as goal

abbrev pub invariant-loop : goal.invariant-loop
invariant-loop l = l.left ≡ drop l.counter l.fn.parts
