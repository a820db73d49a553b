use Rattle.std.proofs.Common.{map}
use Rattle.vk_resolution.specs.Lines.{fault_line}
use Rattle.vk_resolution.specs.Outcomes.{lines_of}
use Rattle.vk_model.specs.FaultViews.{fault_view}
use Rattle.vk_fault_lines.proofs.PrintedLemmas.{in_order_are}
use Rattle.vk_fault_lines.proofs.sorting.sorted.Goals as goal

pub returns : goal.returns
returns c = in_order_are c.in_order.result c.in_ok-lines.lines.entries (lines_of fault_line (map fault_view c.args.faults.items)) c.in_order.ensures c.in_ok-lines.ensures
