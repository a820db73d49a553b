use Rattle.std.proofs.Common.{map, take}
use Rattle.vk_abi_text.specs.Views.{dep_view}
use Rattle.vk_abi_text.specs.Lines.{dep_line, line_text}
use Rattle.vk_abi_text.specs.Puts.{Puts}
use Rattle.vk_abi_text.proofs.writing.put_deps.Given as goal

abbrev pub invariant-loop-dep : goal.invariant-loop-dep
invariant-loop-dep l = Puts (map line_text (map dep_line (map dep_view (take l.dep-index l.deps)))) l.initial.lines.keys l.lines.keys
