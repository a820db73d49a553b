use Rattle.vk_base.proofs.PathLemmas.{ups-fields}
use Rattle.vk_base.proofs.paths.TreePath.steps_up.Goals as goal

pub returns : goal.returns
returns c = ups-fields c.self.inside.rooted c.self.inside.ups c.self.inside.parts c.args.self.now c.self.view_is c.self.invariant.root
