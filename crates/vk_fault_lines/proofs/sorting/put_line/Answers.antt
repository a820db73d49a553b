use Rattle.std.proofs.Common.{sym, ◌∙◌, subst}
use Rattle.vk_model.specs.FaultViews.{fault_view}
use Rattle.vk_fault_lines.specs.Printed.{PutsLine}
use Rattle.vk_fault_lines.proofs.PrintedLemmas.{line_known, line_new}
use Rattle.vk_fault_lines.proofs.sorting.put_line.Goals as goal

pub returns-then-contains_key : goal.returns-then-contains_key
returns-then-contains_key c = line_known c.args.lines.now.entries c.args.text c.args.fault c.requires (sym c.contains_key.ensures ∙ c.if-contains_key.true)

pub returns : goal.returns
returns c = subst (PutsLine (fault_view c.args.fault) c.args.lines.now.entries) (sym c.in_ok-insert.ensures.entries) (line_new c.args.lines.now.entries c.args.text c.args.fault c.requires (sym c.contains_key.ensures ∙ c.if-contains_key.false))
