use Rattle.std.proofs.Common.{◌∙◌, arith}
use Rattle.std.proofs.lemmas.List.{take_all}
use Rattle.vk_entry.proofs.DifferenceLemmas.{refs_moved, refs_sorted}
use Rattle.vk_entry.proofs.differences.in_order.Goals as goal

pub returns-clause-moved : goal.returns-clause-moved
returns-clause-moved c =
    refs_moved c.args.paths.now c.loop-path.refs.items c.sort_unstable.new.self.items
    (c.loop-path.invariant ∙ take_all c.loop-path.path-index c.args.paths.now (omega (arith, c.loop-path-test.false, c.loop-path.auto.path-index-end)))
    c.sort_unstable.ensures.permutation

pub returns-clause-order : goal.returns-clause-order
returns-clause-order c = refs_sorted c.sort_unstable.new.self.items c.sort_unstable.ensures.sorted
