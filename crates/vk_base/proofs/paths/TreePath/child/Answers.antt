use Rattle.vk_base.proofs.PathLemmas.{part_from}
use Rattle.vk_base.proofs.paths.TreePath.child.Goals as goal

pub child-requires : goal.child-requires
child-requires c = part_from c.args.part.now c.requires
