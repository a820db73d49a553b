use Rattle.std.proofs.Common.{◌≡◌, ◌++◌, flat_map}
use Rattle.std.specs.Prelude.{string_bytes}
use Rattle.vk_json.specs.Places.{escaped_char}
use Rattle.vk_json.proofs.places.push_escaped.Given as goal

abbrev pub invariant-loop-c : goal.invariant-loop-c
invariant-loop-c l = string_bytes l.place ≡ string_bytes l.fn.place ++ flat_map escaped_char l.yielded
