use Rattle.std.proofs.Common.{◌≡◌, ◌++◌, take}
use Rattle.std.specs.Prelude.{flat_map}
use Rattle.vk_root.specs.AskedNames.{names_view, name_where}
use Rattle.vk_root.proofs.asked_features.push_uses.Given as goal

abbrev pub invariant-loop-wanted : goal.invariant-loop-wanted
invariant-loop-wanted l = names_view l.names ≡ names_view l.initial.names ++ flat_map (name_where l.marks.names) (take l.wanted-index l.uses)
