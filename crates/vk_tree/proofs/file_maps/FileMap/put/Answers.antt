use Rattle.std.proofs.Common.{◌∙◌, ap}
use Rattle.std.specs.FinMap as map
use Rattle.vk_spec.proofs.FileLemmas.{tree_with_room, insert_agrees}
use Rattle.vk_tree.proofs.FileMapLemmas.{one_put}
use Rattle.vk_tree.proofs.file_maps.FileMap.put.Goals as goal

put_is : goal.returns-clause-ok
put_is c = one_put c.self.inside.inner.entries c.insert.new.self.entries c.args.path c.args.bytes c.in_ok-insert.ensures.updates.0 ∙ ap (λ m. map.insert m c.args.path c.args.bytes) c.self.view_is

pub returns-clause-ok : goal.returns-clause-ok
returns-clause-ok c = put_is c

pub returns-clause-tree : goal.returns-clause-tree
returns-clause-tree c = rw (put_is c) (tree_with_room c.args.path c.args.self.now _ (rw (← c.self.view_is) c.self.invariant) c.requires (insert_agrees c.args.path c.args.bytes c.args.self.now))

pub invariant_of-self-2 : goal.invariant_of-self-2
invariant_of-self-2 c = returns-clause-tree c

pub returns-clause-other : goal.returns-clause-other
returns-clause-other c = rw (put_is c) (insert_agrees c.args.path c.args.bytes c.args.self.now)
