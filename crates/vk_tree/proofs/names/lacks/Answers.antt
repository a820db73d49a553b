use Rattle.std.proofs.Common.{ap, not, ◌∙◌}
use Rattle.vk_tree.proofs.PartLemmas.{lacks_none}
use Rattle.vk_tree.proofs.names.lacks.Goals as goal

pub returns : goal.returns
returns c = ap not c.contains.ensures.value ∙ lacks_none c.args.byte c.args.text.now
