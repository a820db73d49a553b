use Rattle.std.proofs.Common.{◌≡◌, ◌++◌, List, length, IsTrue}
use Rattle.std.specs.List.{All}
use Rattle.vk_base.specs.Paths.{is_part}
use Rattle.vk_tree.specs.Answers.{entries_of}
use Rattle.vk_tree.specs.declared.trees.Listed.{Listed}
use Rattle.vk_walk.specs.WalkMachine.{Entered}
use Rattle.vk_walk.proofs.walks.put_entries.Given as goal

abbrev pub invariant-loop-entry : goal.invariant-loop-entry
invariant-loop-entry l = record {
  done : List Listed;
  split : l.initial.entries.items ≡ l.entries.items ++ done;
  parts : All (λ l. IsTrue (is_part l.name)) l.entries.items;
  entered : Entered l.path l.left (entries_of done) l.initial.todo l.todo;
}

abbrev pub decreases-loop-entry : goal.decreases-loop-entry
decreases-loop-entry l = length l.entries.items
