use Rattle.vk_version.proofs.NumberLemmas.{cut_parts, cut_shorter}
use Rattle.vk_version.proofs.numbers.cut.Goals as goal

pub returns-clause-whole : goal.returns-clause-whole
returns-clause-whole c = cut_parts c.args.text.now _ _ c.split.ensures.front c.split.ensures.rest

pub returns-clause-shorter : goal.returns-clause-shorter
returns-clause-shorter c = cut_shorter c.args.text.now _ c.split.ensures.rest
