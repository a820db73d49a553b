use Rattle.vk_base.proofs.PartLemmas.{cut_at_last, last_cut, last_split}
use Rattle.vk_base.proofs.parts.cut_last.Goals as goal

pub returns-clause-parts : goal.returns-clause-parts
returns-clause-parts c = last_cut c.args.text.now c.rsplit_once.result (cut_at_last c.args.text.now c.rsplit_once.result c.rsplit_once.ensures.cases) c.requires

pub returns-clause-split : goal.returns-clause-split
returns-clause-split c = last_split c.args.text.now c.rsplit_once.result (cut_at_last c.args.text.now c.rsplit_once.result c.rsplit_once.ensures.cases) c.requires
