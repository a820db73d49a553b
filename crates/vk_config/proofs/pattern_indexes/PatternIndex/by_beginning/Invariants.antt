use Rattle.std.proofs.Common.{◌≤◌, length}
use Rattle.vk_config.specs.FirstPlaces.{NoLonger}
use Rattle.vk_config.specs.IndexViews.{index_view}
use Rattle.vk_config.proofs.pattern_indexes.PatternIndex.by_beginning.Given as goal

abbrev pub invariant-loop-place : goal.invariant-loop-place
invariant-loop-place l = (l.size ≤ length l.port) × NoLonger (index_view l.self) l.port l.size

abbrev pub decreases-loop-place : goal.decreases-loop-place
decreases-loop-place l = l.size
