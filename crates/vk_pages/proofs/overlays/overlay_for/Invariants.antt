use Rattle.std.proofs.Common.{drop, map}
use Rattle.vk_files.specs.Views.{held}
use Rattle.vk_opening.specs.Views.{overlay_view}
use Rattle.vk_pages.specs.Homes.{has_port}
use Rattle.vk_pages.specs.Asked.{overlay_path}
use Rattle.vk_files.proofs.FirstLemmas.{NoneSoFar}
use Rattle.vk_pages.proofs.overlays.overlay_for.Given as goal

abbrev pub invariant-loop-overlay : goal.invariant-loop-overlay
invariant-loop-overlay g l =
    NoneSoFar (overlay_path l.port) (has_port l.port) (map overlay_view (drop l.overlay-index l.overlays)) (map overlay_view l.overlays) (held g.T.Tree.state l.initial.archive) (held g.T.Tree.state l.archive)
