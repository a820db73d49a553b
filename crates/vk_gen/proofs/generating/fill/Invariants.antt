use Rattle.std.proofs.Common.{◌≡◌}
use Rattle.std.specs.Prelude.{flat_map}
use Rattle.std.specs.List.{range_with_len}
use Rattle.std.specs.FinMap as map
use Rattle.vk_tree.specs.MemTrees.{mem_files, mem_state}
use Rattle.vk_gen.specs.Loads.{port_files, project_files, untouched}
use Rattle.vk_gen.specs.Puts.{AreAtFilePaths, with_files}
use Rattle.vk_gen.proofs.generating.fill.Given as goal

abbrev pub invariant-loop-port : goal.invariant-loop-port
invariant-loop-port l =
    (mem_state l.tree ≡ with_files (flat_map (port_files l.size) (range_with_len 0 l.port)) (with_files (project_files l.size) (untouched map.empty)))
    × AreAtFilePaths (mem_files l.tree)
