use Rattle.std.proofs.Common.{sym, ap, ◌∙◌}
use Rattle.std.specs.Prelude.{is_some}
use Rattle.std.specs.FinMap as map
use Rattle.vk_tree.proofs.FileMapLemmas.{get_path, one_removed}
use Rattle.vk_tree.proofs.MovingLemmas.{tree_without}
use Rattle.vk_tree.proofs.file_maps.FileMap.remove.Goals.{in-Some, in-None}
use Rattle.vk_tree.proofs.file_maps.FileMap.remove.Goals as goal

pub invariant_of-self : goal.invariant_of-self
invariant_of-self c =
    tree_without c.args.path.now (map.from_entries c.self.inside.inner.entries) (map.from_entries c.remove.new.self.entries) c.self.invariant
    (one_removed c.self.inside.inner.entries c.remove.new.self.entries c.args.path.now c.remove.ensures.updates.0)

pub returns-clause-tree : goal.returns-clause-tree
returns-clause-tree c = invariant_of-self c

pub returns-clause-content : goal.returns-clause-content
returns-clause-content c =
    rw (← c.self.view_is) (elim c.match-remove.branch [
      | in-Some w ↦ rw (w.result-is) (ap is_some (get_path c.self.inside.inner.entries c.args.path.now ∙ sym c.remove.ensures.value ∙ w.in-Some.is), one_removed c.self.inside.inner.entries c.remove.new.self.entries c.args.path.now c.remove.ensures.updates.0)
      | in-None w ↦ rw (w.result-is) (get_path c.self.inside.inner.entries c.args.path.now ∙ sym c.remove.ensures.value ∙ w.in-None.is, ap (λ es. map.from_entries es) w.in-None.ensures.unchanged)
    ])
