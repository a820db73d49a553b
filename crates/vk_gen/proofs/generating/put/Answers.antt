use Rattle.vk_gen.proofs.FilePaths.{room_for, after_put}
use Rattle.vk_gen.proofs.generating.put.Goals as goal

pub put-requires : goal.put-requires
put-requires c = room_for c.args.path.now _ c.requires.path c.requires.files

pub returns-clause-files : goal.returns-clause-files
returns-clause-files c = after_put c.put.result c.args.path.now _ c.args.tree.now c.put.new.self c.requires.path c.requires.files c.put.ensures.ok c.put.ensures.err
