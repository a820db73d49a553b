use Rattle.std.proofs.Common.{refl, sym}
use Rattle.std.proofs.lemmas.List.{append-nil}
use Rattle.vk_spec.specs.Calls.{kind_of}
use Rattle.vk_tree.proofs.MemTreeLemmas.{failed_call}
use Rattle.vk_tree.proofs.mem_trees.MemTreeTree.kind.Goals as goal

pub returns-then-fails-clause-kind : goal.returns-then-fails-clause-kind
returns-then-fails-clause-kind c =
    failed_call (kind_of c.args.path.now) c.args.self.now c.fails.new.self c.fails.result c.fails.ensures.called c.fails.ensures.counted c.fails.ensures.calm c.fails.ensures.later c.fails.ensures.tree c.if-fails.true (sym (append-nil c.args.self.now.log)) refl tt (tt, refl)
