-- A tree that tells nothing of its files.
use Rattle.std.specs.Prelude.{None}
use Rattle.vk_spec.specs.States.{State}
use Rattle.vk_tree.specs.MemTrees.{mem_state}
use Rattle.vk_making_rows.specs.declared.quiet_trees.QuietTree.{QuietTree}

-- the same, but for what is told of files
abbrev pub untold : State → State
untold s = record s { told = None }

abbrev pub quiet_state : QuietTree → State
quiet_state t = untold (mem_state t.mem)
