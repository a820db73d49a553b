use Rattle.std.proofs.Common.{◌≡◌, map}
use Rattle.std.specs.Prelude.{string_bytes}
use Rattle.std.specs.List.{range_with_len}
use Rattle.vk_gen.specs.Loads.{baseline_entry}
use Rattle.vk_gen.proofs.texts.baseline_entries.Given as goal

abbrev pub invariant-loop-port : goal.invariant-loop-port
invariant-loop-port l = map string_bytes l.entries.items ≡ map baseline_entry (range_with_len 0 l.port)
