use Rattle.std.proofs.Common.{◌≡◌, ◌++◌}
use Rattle.std.specs.Prelude.{flat_map}
use Rattle.vk_resolution.specs.Lines.{ended}
use Rattle.vk_abi_text.specs.Lines.{heading}
use Rattle.vk_abi_text.proofs.writing.text_of.Given as goal

abbrev pub invariant-loop-line : goal.invariant-loop-line
invariant-loop-line l = l.text ++ flat_map ended l.line-iterator ≡ heading ++ flat_map ended l.lines.keys
