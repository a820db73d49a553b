use Rattle.std.proofs.Common.{take}
use Rattle.vk_root.specs.AskedNames.{names_view, Grows}
use Rattle.vk_root.proofs.asked_features.put_all.Given as goal

abbrev pub invariant-loop-name : goal.invariant-loop-name
invariant-loop-name l = Grows l.initial.names.keys l.names.keys (names_view (take l.name-index l.more))
