use Rattle.vk_base.proofs.PartLemmas.{single_part}
use Rattle.vk_base.proofs.parts.last_part.Goals as goal

pub returns-in-None : goal.returns-in-None
returns-in-None c = single_part c.args.text.now c.requires.some (rw c.in-None.is at c.cut_last.ensures.parts)
