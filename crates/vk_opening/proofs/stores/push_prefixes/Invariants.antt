use Rattle.std.proofs.Common.{◌≡◌, ◌++◌, take}
use Rattle.vk_opening.specs.Stores.{above}
use Rattle.vk_opening.proofs.stores.push_prefixes.Given as goal

abbrev pub invariant-loop-count : goal.invariant-loop-count
invariant-loop-count l = l.places ≡ l.initial.places ++ take l.count (above l.path)
