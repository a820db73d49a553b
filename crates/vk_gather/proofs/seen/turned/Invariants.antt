use Rattle.std.proofs.Common.{◌≡◌, ◌++◌, List, length}
use Rattle.std.specs.Prelude.{reverse}
use Rattle.std.specs.List.{All}
use Rattle.vk_spec.specs.Paths.{Path}
use Rattle.vk_base.specs.Paths.{IsPath}
use Rattle.vk_gather.specs.EachOnce.{each_once}
use Rattle.vk_gather.proofs.seen.turned.Given as goal

abbrev pub invariant-loop-path : goal.invariant-loop-path
invariant-loop-path l = record {
  done : List Path;
  split : l.initial.paths.items ≡ l.paths.items ++ done;
  once : reverse l.todo ≡ each_once done;
  paths : All IsPath done;
}

abbrev pub decreases-loop-path : goal.decreases-loop-path
decreases-loop-path l = length l.paths.items
