use Rattle.std.proofs.Common.{◌++◌, ap, ◌∙◌}
use Rattle.vk_root.specs.AskedNames.{names_view}
use Rattle.vk_root.proofs.AskedNameLemmas.{names_all}
use Rattle.vk_root.proofs.asked_features.push_uses.Goals as goal

pub returns : goal.returns
returns c = c.loop-wanted.invariant ∙ ap (λ l. names_view c.args.names.now ++ l) (names_all c.args.marks.now.names c.args.uses.now c.loop-wanted.wanted-index c.loop-wanted-test.false)
