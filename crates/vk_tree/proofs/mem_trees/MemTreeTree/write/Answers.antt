use Rattle.std.proofs.Common.{ap}
use Rattle.vk_tree.proofs.MemTreeLemmas.{room_where, half_written, written}
use Rattle.vk_tree.proofs.mem_trees.MemTreeTree.write.Goals as goal

pub put_half-requires : goal.put_half-requires
put_half-requires c = rw (ap (λ m. m.files) c.fails.ensures.called) (room_where c.args.path.now c.args.bytes.now c.args.self.now.files c.requires)

pub put_file-requires : goal.put_file-requires
put_file-requires c = rw (ap (λ m. m.files) c.fails.ensures.called) (room_where c.args.path.now c.args.bytes.now c.args.self.now.files c.requires)

pub returns-then-fails-clause-written : goal.returns-then-fails-clause-written
returns-then-fails-clause-written c =
    half_written c.args.path.now c.args.bytes.now c.args.self.now c.fails.new.self c.put_half.new.files c.fails.result c.fails.ensures.called c.fails.ensures.counted c.fails.ensures.calm c.fails.ensures.later c.fails.ensures.tree c.if-fails.true c.put_half.ensures.tree c.put_half.ensures.half

pub returns-clause-written : goal.returns-clause-written
returns-clause-written c =
    written c.args.path.now c.args.bytes.now c.args.self.now c.fails.new.self c.put_file.new.files c.saturating_add-self.result c.fails.result c.fails.ensures.called c.fails.ensures.counted c.fails.ensures.calm c.fails.ensures.later c.fails.ensures.tree c.if-fails.false c.in_ok-put_file.ensures.tree c.in_ok-put_file.ensures.ok c.saturating_add-self.ensures
