use Rattle.std.proofs.Common.{◌≡◌, false}
use Rattle.std.specs.Vec.Iter.{into_iter_items}
use Rattle.vk_spec.specs.Standing.{OnFiles}
use Rattle.vk_folder.specs.Folders.{AtPaths}
use Rattle.vk_folder.specs.Hashed.{OnlyPieces}
use Rattle.vk_folder.proofs.FolderLemmas.{SoFar}
use Rattle.vk_folder.proofs.digests.digests_of.Given as goal

abbrev pub invariant-loop-path : goal.invariant-loop-path
invariant-loop-path g l = record {
  most : l.room.most ≡ l.most;
  files : OnFiles (SoFar l.most l.folder l.fn.paths (into_iter_items l.path-iterator) l.room l.digests) (g.T.Tree.state l.initial.tree);
  paths : AtPaths l.digests;
  reads : OnlyPieces l.folder false (g.T.Tree.state l.initial.tree) (g.T.Tree.state l.tree);
}
