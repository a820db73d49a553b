use Rattle.std.proofs.lemmas.Result.{err_from_is_err_and}
use Rattle.vk_folder.proofs.PieceLemmas.{pieces_nothing, pieces_below}
use Rattle.vk_folder.proofs.hashing.hash_below.Goals as goal

pub returns-in_err-path-clause-reads : goal.returns-in_err-path-clause-reads
returns-in_err-path-clause-reads g c =
    let p = err_from_is_err_and c.from_residual.result c.from_residual.ensures.1 in rw (p.1, p.2) (pieces_nothing _)

pub returns-in-Some-clause-reads : goal.returns-in-Some-clause-reads
returns-in-Some-clause-reads g c = pieces_below (rw c.in-Some.is at c.in_ok-path.ensures.within) c.hash_file.ensures.reads

pub returns-in-None-clause-reads : goal.returns-in-None-clause-reads
returns-in-None-clause-reads g c = pieces_nothing _
