use Rattle.std.specs.FinMap as map
use Rattle.vk_tree.proofs.MovingLemmas.{tree_moved}
use Rattle.vk_tree.proofs.file_maps.FileMap.rename.Goals as goal

pub invariant_of-self : goal.invariant_of-self
invariant_of-self c =
    tree_moved c.args.from.now c.args.to.now (map.from_entries c.self.inside.inner.entries) (map.from_entries c.in_ok-self-inside.field-0.entries) c.self.invariant
    (rw (c.self.view_is) c.requires.0) c.in_ok-self-inside.ensures

pub returns-clause-tree : goal.returns-clause-tree
returns-clause-tree c = invariant_of-self c
