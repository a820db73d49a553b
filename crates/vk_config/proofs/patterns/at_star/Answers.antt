use Rattle.std.proofs.Common.{lit<}
use Rattle.std.proofs.lemmas.Str.Pattern.{split_once_first}
use Rattle.vk_config.proofs.CutLemmas.{star_cut}
use Rattle.vk_config.proofs.patterns.at_star.Goals as goal

pub returns : goal.returns
returns c =
    star_cut c.args.text.now c.split_once.result
    (split_once_first 42 c.args.text.now c.split_once.result c.split_once.ensures.cases (lit< tt))
