use Rattle.std.proofs.lemmas.Result.{err_from_is_err_and}
use Rattle.vk_folder.proofs.PieceLemmas.{pieces_then}
use Rattle.vk_folder.proofs.WalkedLemmas.{files_on_start}
use Rattle.vk_folder.proofs.digests.folder_digests.Goals as goal

pub returns-in_err-paths-clause-limits : goal.returns-in_err-paths-clause-limits
returns-in_err-paths-clause-limits g c =
    let p = err_from_is_err_and c.from_residual.result c.from_residual.ensures.1 in
    rw (p.1, p.2) (c.in_err-paths.ensures.limits c.args.most)

pub returns-clause-is : goal.returns-clause-is
returns-clause-is g c = files_on_start c.args.most c.args.folder.now c.in_ok-paths.paths c.digests_of.result c.in_ok-paths.ensures.reads c.in_ok-paths.ensures.is c.digests_of.ensures.is

pub returns-clause-reads : goal.returns-clause-reads
returns-clause-reads g c = (pieces_then c.in_ok-paths.ensures.reads c.digests_of.ensures.reads).reads

pub returns-clause-narrow : goal.returns-clause-narrow
returns-clause-narrow g c = (pieces_then c.in_ok-paths.ensures.reads c.digests_of.ensures.reads).narrow
