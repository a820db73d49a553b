use Rattle.vk_base.proofs.PathLemmas.{key_again, path_from}
use Rattle.vk_base.proofs.paths.TreePath.ends_in.Goals as goal

pub returns-clause-key : goal.returns-clause-key
returns-clause-key c =
    key_again c.args.self.now (path_from c.self.inside.rooted c.self.inside.ups c.self.inside.parts c.args.self.now c.self.view_is c.self.invariant)
