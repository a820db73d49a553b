use Rattle.std.proofs.Common.{take}
use Rattle.vk_walk.specs.Walks.{AreSeen}
use Rattle.vk_walk.proofs.walking.seen_from.Given as goal

abbrev pub invariant-loop-path : goal.invariant-loop-path
invariant-loop-path l = AreSeen l.folder (take l.path-index l.paths) l.seen
