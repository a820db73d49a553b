use Rattle.std.proofs.Common.{◌++◌, codes, map, refl, string_bytes}
use Rattle.vk_resolution.specs.Lines.{counted, numbered_lines, reason_text}
use Rattle.vk_model.specs.FactViews.{reason_view}
use Rattle.vk_report.proofs.NumberedLines.{counted_written, last_written}
use Rattle.vk_report.proofs.reports.push_reasons.Goals as goal

pub returns : goal.returns
returns c =
    let count = rw c.len.ensures at c.in_ok-push_count.ensures in
    let lines = rw c.as_slice.ensures at c.in_ok-push_numbered.ensures (λ r. reason_text (reason_view r)) (λ r. refl) in
    let reasons = map reason_view c.args.reasons.now in
    last_written (string_bytes c.args.report.now) (counted (codes "reasons") reasons ++ numbered_lines reason_text 1 reasons) (codes "end\n") _ _
    c.in_ok-push_str.ensures.bytes
    (counted_written reason_text reason_view (codes "reasons") c.args.reasons.now _ _ _ count lines)
