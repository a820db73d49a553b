use Rattle.std.proofs.Common.{◌≡◌, ◌++◌}
use Rattle.vk_json.specs.Values.{entries_view}
use Rattle.vk_json.specs.Looks.{names_of}
use Rattle.vk_json.proofs.getters.names_of.Given as goal

abbrev pub invariant-loop-key : goal.invariant-loop-key
invariant-loop-key l = l.names ++ names_of (entries_view l.key-iterator) ≡ names_of (entries_view l.members.entries)
