use Rattle.std.proofs.Common.{◌≡◌, ◌++◌}
use Rattle.vk_root.specs.Roots.{root_setting}
use Rattle.vk_root.specs.AskedNames.{names_view}
use Rattle.vk_root.specs.NamedInstances.{instances_view, named_of}
use Rattle.vk_root.proofs.off_lists.named_by.Given as goal

abbrev pub invariant-loop-feature : goal.invariant-loop-feature
invariant-loop-feature l = instances_view l.named ++ named_of (root_setting l.root) l.only (names_view l.feature-iterator) ≡ named_of (root_setting l.root) l.only (names_view l.features.keys)
