use Rattle.vk_base.proofs.PathLemmas.{rooted-fields}
use Rattle.vk_base.proofs.paths.TreePath.is_rooted.Goals as goal

pub returns : goal.returns
returns c = rooted-fields c.self.inside.rooted c.self.inside.ups c.self.inside.parts c.args.self.now c.self.view_is
