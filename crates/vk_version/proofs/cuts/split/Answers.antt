use Rattle.std.proofs.Common.{◌==◌}
use Rattle.std.proofs.lemmas.Str.Pattern.{split_once_first}
use Rattle.vk_version.proofs.CutLemmas.{none_passes}
use Rattle.vk_version.proofs.cuts.split.Goals as goal

pub returns-in-None-clause-rest : goal.returns-in-None-clause-rest
returns-in-None-clause-rest c =
    let first =
    split_once_first c.args.mark c.args.text.now c.split_once.result c.split_once.ensures.cases
    c.requires in
    (none_passes (λ b. b == c.args.mark) c.args.text.now (rw c.in-None.is at first)).1
