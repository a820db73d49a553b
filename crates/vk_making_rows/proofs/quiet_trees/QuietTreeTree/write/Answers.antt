use Rattle.vk_making_rows.proofs.quiet_trees.QuietTreeTree.write.Goals as goal

pub returns : goal.returns
returns c = c.wrote_nothing.ensures c.args.bytes.now
