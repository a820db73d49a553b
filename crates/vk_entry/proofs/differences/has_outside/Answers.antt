use Rattle.std.proofs.Common.{◌∙◌, sym, arith}
use Rattle.vk_entry.proofs.DifferenceLemmas.{left_equal, left_greater, left_less, left_start, past_end, past_others}
use Rattle.vk_entry.proofs.differences.has_outside.Goals as goal
use Rattle.vk_entry.proofs.differences.has_outside.Goals.{then-loop-at-test+else-other-others, else-loop-at-test}

pub loop-at-init : goal.loop-at-init
loop-at-init c = left_start c.args.paths.now c.args.others.now

pub returns-in-Less : goal.returns-in-Less
returns-in-Less c =
    left_less c.args.paths.now c.args.others.now c.loop-at.at c.loop-at.other c.loop-at.invariant c.index-paths-at.result c.index-others-other.result c.requires.paths c.requires.others
    c.loop-at-test.true c.if-other-others.true c.index-paths-at.is c.index-others-other.is (sym c.cmp.ensures ∙ c.in-Less.is)

pub loop-at-preserved-in-Equal : goal.loop-at-preserved-in-Equal
loop-at-preserved-in-Equal c =
    left_equal c.args.paths.now c.args.others.now c.loop-at.at c.loop-at.other c.loop-at.invariant c.index-paths-at.result c.index-others-other.result c.requires.paths c.requires.others
    c.loop-at-test.true c.if-other-others.true c.index-paths-at.is c.index-others-other.is (sym c.cmp.ensures ∙ c.in-Equal.is)

pub loop-at-preserved : goal.loop-at-preserved
loop-at-preserved c =
    left_greater c.args.paths.now c.args.others.now c.loop-at.at c.loop-at.other c.loop-at.invariant c.index-paths-at.result c.index-others-other.result c.requires.paths c.requires.others
    c.loop-at-test.true c.if-other-others.true c.index-paths-at.is c.index-others-other.is (sym c.cmp.ensures ∙ c.in-Greater.is)

pub returns : goal.returns
returns c = elim c.loop-at-test.branch [
  | then-loop-at-test+else-other-others w ↦ past_others c.args.paths.now c.args.others.now c.loop-at.at c.loop-at.other c.loop-at.invariant w.loop-at-test.true (omega (arith, w.if-other-others.false))
  | else-loop-at-test w ↦ past_end c.args.paths.now c.args.others.now c.loop-at.at c.loop-at.other c.loop-at.invariant (omega (arith, w.loop-at-test.false))
]
