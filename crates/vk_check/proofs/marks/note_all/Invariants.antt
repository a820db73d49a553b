use Rattle.std.proofs.Common.{◌≡◌, ◌++◌, List, length}
use Rattle.vk_spec.specs.Lists.{IsWithin}
use Rattle.vk_model.specs.declared.facts.Fact.{Fact}
use Rattle.vk_model.specs.declared.reasons.Cause.{Cause}
use Rattle.vk_worklist.specs.Entries.{facts_in, reasons_in}
use Rattle.vk_check.specs.Certifying.{MarksMore}
use Rattle.vk_check.proofs.marks.note_all.Given as goal

abbrev pub invariant-loop-fact : goal.invariant-loop-fact
invariant-loop-fact l = record {
  done : List (Fact × Cause);
  split : l.initial.brought.items ≡ l.brought.items ++ done;
  marks : MarksMore (reasons_in l.lines.entries) l.initial.marks.items l.marks.items (reasons_in done);
  within : IsWithin (facts_in done) (facts_in l.lines.entries);
  long : length l.marks.items ≡ length l.initial.marks.items;
}

abbrev pub decreases-loop-fact : goal.decreases-loop-fact
decreases-loop-fact l = length l.brought.items
