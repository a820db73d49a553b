use Rattle.std.proofs.Common.{◌≡◌, ◌++◌}
use Rattle.vk_model.specs.FactViews.{reasons_view}
use Rattle.vk_worklist.specs.Entries.{reasons_in}
use Rattle.vk_close.proofs.closures.moved_to.Given as goal

abbrev pub invariant-loop-fact : goal.invariant-loop-fact
invariant-loop-fact l = reasons_view l.reasons.items ++ reasons_in l.fact-iterator ≡ reasons_in l.fn.lines.entries
