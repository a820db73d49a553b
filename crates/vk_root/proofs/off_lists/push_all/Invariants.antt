use Rattle.std.proofs.Common.{◌≡◌, ◌++◌, take}
use Rattle.vk_root.specs.Roots.{root_setting}
use Rattle.vk_root.specs.NamedInstances.{instances_view, named_each}
use Rattle.vk_root.proofs.off_lists.push_all.Given as goal

abbrev pub invariant-loop-dependency : goal.invariant-loop-dependency
invariant-loop-dependency l = instances_view l.named ≡ instances_view l.initial.named ++ named_each (root_setting l.root) l.marks.names l.only (take l.dependency-index l.dependencies)
