use Rattle.std.proofs.Common.{◌∙◌, sym}
use Rattle.vk_triplet.proofs.MarkLemmas.{value_more}
use Rattle.vk_triplet.proofs.tables.value_of.Goals as goal

pub loop-variable-preserved : goal.loop-variable-preserved
loop-variable-preserved c = record {
  text = c.value_after-value.utf8;
  value =
      let more = value_more c.args.name.now c.args.vars.now c.loop-variable.variable-index c.variable-item.result c.loop-variable-test.true c.variable-item.is in
      let known = rw (← c.loop-variable.invariant.value) at more in
      c.value_after-value.ensures ∙ sym known;
}
