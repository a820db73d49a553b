use Rattle.std.proofs.Common.{sym, ◌∙◌, ap}
use Rattle.vk_tree.specs.Answers.{entries_of}
use Rattle.vk_publish.specs.Names.{is_taken}
use Rattle.vk_publish.proofs.NameLemmas.{least_more}
use Rattle.vk_publish.proofs.names.least_of.Goals as goal

pub loop-number-preserved : goal.loop-number-preserved
loop-number-preserved c = (
  c.loop-number.invariant.0 ∙ least_more c.args.agent.now (entries_of c.args.listed.now) c.args.most c.loop-number.number c.loop-number-test.true (ap (is_taken (entries_of c.args.listed.now)) (sym (c.as_str.ensures.value ∙ c.in_ok-name.ensures)) ∙ sym c.in-Some.ensures.taken),
  c.in-Some.ensures.within,
)
