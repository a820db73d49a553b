use Rattle.std.proofs.Common.{◌∷◌, [], drop}
use Rattle.vk_files.specs.Readings.{is_at}
use Rattle.vk_files.specs.Views.{held}
use Rattle.vk_files.proofs.FirstLemmas.{NoneSoFar}
use Rattle.vk_files.proofs.archives.Archive.first.Given as goal

abbrev pub invariant-loop-path : goal.invariant-loop-path
invariant-loop-path g l = NoneSoFar (λ p. p ∷ []) is_at (drop l.path-index l.paths) l.paths (held g.T.Tree.state l.initial.self) (held g.T.Tree.state l.self)
