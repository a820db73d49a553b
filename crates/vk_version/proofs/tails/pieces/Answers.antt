use Rattle.vk_version.proofs.PieceLemmas.{cut_is}
use Rattle.vk_version.proofs.tails.pieces.Goals as goal

pub returns : goal.returns
returns c =
    cut_is c.args.text.now _ _ _ _ c.split.ensures.front c.split-2.ensures.front
    c.split-2.ensures.rest c.split.ensures.rest
