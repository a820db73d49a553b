use Rattle.std.proofs.Common.{◌≤◌, length, refl, subst, ◌∙◌, arith}
use Rattle.std.specs.Prelude.{IfSome, false}
use Rattle.std.proofs.lemmas.Result.{err_from_is_err_and}
use Rattle.vk_folder.specs.Hashed.{IsLess, most_piece}
use Rattle.vk_folder.proofs.PieceLemmas.{pieces_nothing, pieces_then, read_out, read_over, fed_nothing, fed_more, fed_last, fed_over}
use Rattle.vk_folder.proofs.pieces.feed.Goals as goal

pub loop-piece-init : goal.loop-piece-init
loop-piece-init g c = record {
  most = refl;
  left = omega arith;
  fed = fed_nothing c.args.path.now c.args.run.now (g.T.Tree.state c.args.tree.now);
  reads = pieces_nothing _;
}

pub returns-in_err-piece-clause-reads : goal.returns-in_err-piece-clause-reads
returns-in_err-piece-clause-reads g c =
    let p = err_from_is_err_and c.from_residual.result c.from_residual.ensures.1 in
    rw (p.1, p.2) (read_out c.in_err-piece.field-0.0 c.loop-piece.invariant.reads c.in_err-piece.ensures.reads)

pub returns-in_default-clause-reads : goal.returns-in_default-clause-reads
returns-in_default-clause-reads g c = pieces_then c.loop-piece.invariant.reads c.in_ok-piece.ensures.reads

pub returns-in_err-room-clause-is : goal.returns-in_err-room-clause-is
returns-in_err-room-clause-is g c =
    let p = err_from_is_err_and c.from_residual-in_err-room.result c.from_residual-in_err-room.ensures.1 in
    rw (p.1, p.2) (fed_over c.args.path.now c.loop-piece.at c.args.run.now c.loop-piece.run c.args.room c.loop-piece.room c.in_err-room.field-0.0 c.len.result c.in_ok-piece.field-0 c.in-Some.piece
    c.loop-piece.invariant.most c.loop-piece.invariant.left c.len.ensures c.in_err-room.ensures c.loop-piece.invariant.reads c.in-Some.is c.in_ok-piece.ensures.tree c.in_ok-piece.ensures.is c.loop-piece.invariant.fed)

pub returns-in_err-room-clause-reads : goal.returns-in_err-room-clause-reads
returns-in_err-room-clause-reads g c =
    let p = err_from_is_err_and c.from_residual-in_err-room.result c.from_residual-in_err-room.ensures.1 in
    rw (p.1, p.2) (read_over c.loop-piece.room c.len.result c.in_err-room.field-0.0 c.in_err-room.ensures c.loop-piece.invariant.reads c.in_ok-piece.ensures.reads)

pub returns-then-len-clause-is : goal.returns-then-len-clause-is
returns-then-len-clause-is g c =
    fed_last c.args.path.now c.loop-piece.at c.args.run.now c.loop-piece.run c.update.new.self c.args.room c.loop-piece.room c.in_ok-room.room c.in_ok-piece.field-0 c.in-Some.piece
    (omega (arith, c.len-in-loop-piece.ensures, c.if-len.true)) c.loop-piece.invariant.most c.loop-piece.invariant.left (subst (λ n. IsLess c.loop-piece.room n c.in_ok-room.room) c.len.ensures c.in_ok-room.ensures)
    (rw (← c.as_slice.ensures) c.update.ensures) c.loop-piece.invariant.reads c.in-Some.is c.in_ok-piece.ensures.tree c.in_ok-piece.ensures.is c.loop-piece.invariant.fed

pub returns-then-len-clause-reads : goal.returns-then-len-clause-reads
returns-then-len-clause-reads g c = pieces_then c.loop-piece.invariant.reads c.in_ok-piece.ensures.reads

pub loop-piece-preserved : goal.loop-piece-preserved
loop-piece-preserved g c =
    let small : length c.in-Some.piece ≤ most_piece = subst (λ o. IfSome o (λ piece. length piece ≤ most_piece)) c.in-Some.is c.in_ok-piece.ensures.small in
    record {
      most = c.in_ok-room.ensures.0 ∙ c.loop-piece.invariant.most;
      left = omega (arith, c.in_ok-room.ensures.1, c.loop-piece.invariant.left, c.len.ensures, c.len-in-loop-piece.ensures, c.if-len.false, small);
      fed = fed_more c.args.path.now c.loop-piece.at c.args.run.now c.loop-piece.run c.update.new.self c.in_ok-piece.field-0 c.in-Some.piece (omega (arith, c.len-in-loop-piece.ensures, c.if-len.false, small))
          (rw (← c.as_slice.ensures) c.update.ensures) c.loop-piece.invariant.reads c.in-Some.is c.in_ok-piece.ensures.is c.loop-piece.invariant.fed;
      reads = pieces_then {failed = false} c.loop-piece.invariant.reads c.in_ok-piece.ensures.reads;
    }
