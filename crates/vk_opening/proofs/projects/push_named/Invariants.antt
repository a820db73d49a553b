use Rattle.std.proofs.Common.{◌≡◌, ◌++◌, take}
use Rattle.vk_opening.proofs.projects.push_named.Given as goal

abbrev pub invariant-loop-path : goal.invariant-loop-path
invariant-loop-path l = l.folders ≡ l.initial.folders ++ take l.path-index l.words
