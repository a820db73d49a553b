use Rattle.std.proofs.Common.{◌≡◌, ◌++◌, ◌≤◌, List, length}
use Rattle.vk_model.specs.declared.facts.Fact.{Fact}
use Rattle.vk_model.specs.declared.reasons.Cause.{Cause}
use Rattle.vk_worklist.specs.Entries.{IsNoted}
use Rattle.vk_worklist.proofs.notes.note_all.Given as goal

abbrev pub invariant-loop-fact : goal.invariant-loop-fact
invariant-loop-fact l = record {
  done : List (Fact × Cause);
  split : l.initial.brought.items ≡ l.brought.items ++ done;
  noted : IsNoted l.initial.lines.entries done l.lines.entries;
  few : length l.lines.entries ≤ l.most;
}

abbrev pub decreases-loop-fact : goal.decreases-loop-fact
decreases-loop-fact l = length l.brought.items
