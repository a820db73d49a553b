use Rattle.vk_opening.proofs.OpenLemmas.{lists_own}
use Rattle.vk_opening.proofs.opens.off_of.Goals as goal

pub returns : goal.returns
returns c = lists_own c.args.setting.now c.off_list.result c.off_list.ensures.listing
