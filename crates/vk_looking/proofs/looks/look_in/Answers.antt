use Rattle.std.proofs.lemmas.Result.{err_from_is_err_and}
use Rattle.vk_protocol.proofs.RunLemmas.{lack_here}
use Rattle.vk_look.specs.LookIs.{wanted_in}
use Rattle.vk_look.specs.Looks.{look_of}
use Rattle.vk_looking.proofs.looks.look_in.Goals as goal

pub returns-in_err-folder : goal.returns-in_err-folder
returns-in_err-folder g c =
    let p = err_from_is_err_and c.from_residual.result c.from_residual.ensures.1 in
    rw (p.1, p.2) (lack_here (look_of (wanted_in c.args.cache.now c.args.hash.now.bytes c.args.text.now c.args.most)) _ (g.T.Tree.state c.args.tree.now))
