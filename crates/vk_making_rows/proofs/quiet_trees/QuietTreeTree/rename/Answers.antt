use Rattle.vk_making_rows.proofs.quiet_trees.QuietTreeTree.rename.Goals as goal

pub returns : goal.returns
returns c = c.moved_nothing.ensures c.args.to.now
