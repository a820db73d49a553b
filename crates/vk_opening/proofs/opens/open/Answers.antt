use Rattle.vk_opening.proofs.OpenLemmas.{opens_with}
use Rattle.vk_opening.proofs.opens.open.Goals as goal

pub returns : goal.returns
returns g c = opens_with c.read_with-read.ensures c.answer.ensures
