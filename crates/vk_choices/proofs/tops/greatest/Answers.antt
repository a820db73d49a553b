use Rattle.std.proofs.Common.{sym, ◌∙◌}
use Rattle.vk_choices.proofs.TopLemmas.{is_greatest, none_greatest}
use Rattle.vk_choices.proofs.tops.greatest.Goals as goal

pub returns-then-are_at_most : goal.returns-then-are_at_most
returns-then-are_at_most c = is_greatest c.args.floors.now c.highest-best.result c.index-floors-best.result c.highest-best.ensures (sym c.are_at_most.ensures ∙ c.if-are_at_most.true)

pub returns-else-are_at_most : goal.returns-else-are_at_most
returns-else-are_at_most c = none_greatest c.args.floors.now c.highest-best.result c.index-floors-best.result c.highest-best.ensures (sym c.are_at_most.ensures ∙ c.if-are_at_most.false)
