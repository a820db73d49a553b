use Rattle.std.proofs.Common.{codes, refl}
use Rattle.vk_resolution.specs.Lines.{item_text}
use Rattle.vk_model.specs.FaultViews.{item_view}
use Rattle.vk_report.proofs.NumberedLines.{counted_written}
use Rattle.vk_report.proofs.reports.push_items.Goals as goal

pub returns : goal.returns
returns c =
    let count = rw c.len.ensures at c.in_ok-push_count.ensures in
    let lines = rw c.as_slice.ensures at c.in_ok-push_numbered.ensures (λ i. item_text (item_view i)) (λ i. refl) in
    counted_written item_text item_view (codes "plan") c.args.items.now _ _ _ count lines
