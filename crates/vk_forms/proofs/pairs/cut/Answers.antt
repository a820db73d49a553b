use Rattle.vk_forms.proofs.PairForms.{cut_says}
use Rattle.vk_forms.proofs.pairs.cut.Goals as goal

pub returns : goal.returns
returns c = cut_says c.args.mark c.args.text.now c.split_once.result c.split_once.ensures.cases c.requires
