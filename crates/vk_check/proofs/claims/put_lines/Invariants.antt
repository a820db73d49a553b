use Rattle.std.proofs.Common.{◌≡◌, take}
use Rattle.vk_spec.specs.Lists.{NoRepeats}
use Rattle.vk_resolution.specs.Reasons.{facts_of}
use Rattle.vk_model.specs.FactViews.{reasons_view}
use Rattle.vk_worklist.specs.Entries.{reasons_in}
use Rattle.vk_check.proofs.claims.put_lines.Given as goal

abbrev pub invariant-loop-reason : goal.invariant-loop-reason
invariant-loop-reason l = record {
  lines : reasons_in l.lines.entries ≡ reasons_view (take l.reason-index l.reasons);
  distinct : NoRepeats (facts_of (reasons_in l.lines.entries));
}
