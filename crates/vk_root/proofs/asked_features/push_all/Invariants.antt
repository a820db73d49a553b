use Rattle.std.proofs.Common.{◌≡◌, ◌++◌, take}
use Rattle.vk_root.specs.Roots.{root_setting}
use Rattle.vk_root.specs.AskedNames.{names_view, names_each}
use Rattle.vk_root.proofs.asked_features.push_all.Given as goal

abbrev pub invariant-loop-dependency : goal.invariant-loop-dependency
invariant-loop-dependency l = names_view l.names ≡ names_view l.initial.names ++ names_each (root_setting l.root) l.marks.names (take l.dependency-index l.dependencies)
