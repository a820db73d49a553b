use Rattle.std.proofs.Common.{◌≡◌, ◌++◌, take, map}
use Rattle.vk_base.specs.Paths.{joined}
use Rattle.vk_opening.proofs.projects.push_joined.Given as goal

abbrev pub invariant-loop-path : goal.invariant-loop-path
invariant-loop-path l = l.folders ≡ l.initial.folders ++ map (joined l.project) (take l.path-index l.configured)
