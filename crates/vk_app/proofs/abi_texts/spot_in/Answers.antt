use Rattle.std.proofs.lemmas.Result.{err_from_is_err_and}
use Rattle.vk_app.proofs.abi_texts.spot_in.Goals as goal

pub folders_of-requires : goal.folders_of-requires
folders_of-requires g c = rw (c.as_slice.ensures) c.requires

pub returns-in_err-folders-clause-asked : goal.returns-in_err-folders-clause-asked
returns-in_err-folders-clause-asked g c =
    let p = err_from_is_err_and c.from_residual.result c.from_residual.ensures.1 in rw (p.1, p.2) c.in_err-folders.ensures.asked
