use Rattle.std.proofs.Common.{◌≡◌, ◌++◌, ◌+◌, List, ℕ, Some, drop, string_bytes}
use Rattle.vk_resolution.specs.Lines.{numbered_lines}
use Rattle.vk_report.proofs.reports.push_numbered.Given as goal

abbrev pub invariant-loop-n : goal.invariant-loop-n
invariant-loop-n g l = (text : g.row.L.Denot → List ℕ) → ((line : g.row.L.Denot) → g.L.Display.output line ≡ Some (text line))
    → string_bytes l.report ++ numbered_lines text (l.n + 1) (drop l.n l.lines) ≡ string_bytes l.initial.report ++ numbered_lines text 1 l.lines
