use Rattle.std.proofs.Common.{◌≡◌, ◌+◌}
use Rattle.std.specs.Prelude.{false}
use Rattle.vk_folder.specs.Hashed.{OnlyPieces}
use Rattle.vk_spec.specs.Standing.{OnFiles}
use Rattle.vk_folder.proofs.PieceLemmas.{FedTo}
use Rattle.vk_folder.proofs.pieces.feed.Given as goal

-- the first bytes were given to the run, and there was room for them
abbrev pub invariant-loop-piece : goal.invariant-loop-piece
invariant-loop-piece g l = record {
  most : l.room.most ≡ l.initial.room.most;
  left : l.room.left + l.at ≡ l.initial.room.left;
  fed : OnFiles (FedTo l.path l.at l.initial.run l.run) (g.T.Tree.state l.initial.tree);
  reads : OnlyPieces l.path false (g.T.Tree.state l.initial.tree) (g.T.Tree.state l.tree);
}

abbrev pub decreases-loop-piece : goal.decreases-loop-piece
decreases-loop-piece g l = l.room.left
