use Rattle.std.proofs.Common.{sym, ◌∙◌, subst}
use Rattle.std.proofs.lemmas.List.{nil_from_length}
use Rattle.std.proofs.lemmas.Result.{err_from_is_err_and}
use Rattle.std.specs.Vec.Iter.{into_iter_items}
use Rattle.vk_spec.specs.Standing.{OnFiles}
use Rattle.vk_base.specs.Stops.{is_failure}
use Rattle.vk_folder.proofs.PieceLemmas.{pieces_then}
use Rattle.vk_folder.proofs.FolderLemmas.{SoFar, next_on, stopped_on, end_on}
use Rattle.vk_folder.proofs.digests.digests_of.Goals as goal

pub returns-in_err-room-clause-is : goal.returns-in_err-room-clause-is
returns-in_err-room-clause-is g c =
    let p = err_from_is_err_and c.from_residual.result c.from_residual.ensures.1 in
    rw (p.1, p.2) (stopped_on c.args.most c.args.folder.now c.args.paths (into_iter_items c.next.new.self) c.loop-path.room c.loop-path.digests c.in-Some.path c.in_err-room.field-0.0 c.loop-path.invariant.reads c.requires c.in_err-room.ensures.is
    (subst (λ l. OnFiles (SoFar c.args.most c.args.folder.now c.args.paths l c.loop-path.room c.loop-path.digests) (g.T.Tree.state c.args.tree.now)) c.in-Some.ensures.steps.0 c.loop-path.invariant.files))

pub returns-in_err-room-clause-reads : goal.returns-in_err-room-clause-reads
returns-in_err-room-clause-reads g c =
    let p = err_from_is_err_and c.from_residual.result c.from_residual.ensures.1 in
    rw (p.1, p.2) (pieces_then {failed = is_failure c.in_err-room.field-0.0} c.loop-path.invariant.reads c.in_err-room.ensures.reads)

pub loop-path-preserved : goal.loop-path-preserved
loop-path-preserved g c = record {
  most = c.in_ok-room.ensures.most ∙ c.loop-path.invariant.most;
  files = next_on c.args.most c.args.folder.now c.args.paths (into_iter_items c.next.new.self) c.loop-path.room c.in_ok-room.room c.loop-path.digests c.add_digest.new.digests c.in-Some.path c.in_ok-room.ensures.path
      c.loop-path.invariant.reads c.requires c.in_ok-room.ensures.is
      (subst (λ l. OnFiles (SoFar c.args.most c.args.folder.now c.args.paths l c.loop-path.room c.loop-path.digests) (g.T.Tree.state c.args.tree.now)) c.in-Some.ensures.steps.0 c.loop-path.invariant.files);
  paths = c.in_ok-room.ensures.paths c.loop-path.invariant.paths;
  reads = pieces_then c.loop-path.invariant.reads c.in_ok-room.ensures.reads;
}

pub returns-clause-is : goal.returns-clause-is
returns-clause-is g c =
    end_on c.args.most c.args.folder.now c.args.paths (into_iter_items c.loop-path.path-iterator) c.loop-path.room c.loop-path.digests (g.T.Tree.state c.args.tree.now)
    (nil_from_length (into_iter_items c.loop-path.path-iterator) (sym c.loop-path.path-iterator.rest.ok.0 ∙ c.in-None.ensures.steps.0)) c.requires c.loop-path.invariant.files
