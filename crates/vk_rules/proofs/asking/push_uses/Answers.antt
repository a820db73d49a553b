use Rattle.std.proofs.Common.{◌++◌, ap, ◌∙◌}
use Rattle.vk_root.specs.Requirers.{requirer_view}
use Rattle.vk_rules.specs.Asked.{facts_view}
use Rattle.vk_rules.proofs.AskedLemmas.{needs_all}
use Rattle.vk_rules.proofs.asking.push_uses.Goals as goal

pub returns : goal.returns
returns c = c.loop-wanted.invariant ∙ ap (λ l. facts_view c.args.facts.now ++ l) (needs_all (requirer_view c.args.who) c.args.marks.now.names c.args.uses.now c.loop-wanted.wanted-index c.loop-wanted-test.false)
