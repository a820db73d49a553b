use Rattle.std.specs.Vec.Iter.{into_iter_items}
use Rattle.vk_files.specs.Views.{held}
use Rattle.vk_opening.specs.Views.{overlay_view}
use Rattle.vk_opening.specs.Overlays.{overlay_at}
use Rattle.vk_opening.specs.Projects.{manifest_path}
use Rattle.vk_opening.proofs.LoopLemmas.{ReadSoFar}
use Rattle.vk_opening.proofs.overlays.read_overlays.Given as goal

abbrev pub invariant-loop-folder : goal.invariant-loop-folder
invariant-loop-folder g l = ReadSoFar manifest_path overlay_view overlay_at l.overlays (into_iter_items l.folder-iterator) l.fn.folders (held g.T.Tree.state l.initial.archive) (held g.T.Tree.state l.archive)
