use Rattle.std.proofs.Common.{◌≡◌, ◌∙◌, ap, rules}
use Rattle.vk_walk.specs.Walked.{walk_limits}
use Rattle.vk_walk.specs.WalkProtocol.{walk_of}
use Rattle.vk_gather.proofs.GatherSteps.{first_walk}
use Rattle.vk_gather.proofs.walked.walk_first.Goals as goal

pub returns : goal.returns
returns g c =
    let same : c.in_ok-walked.walked ≡ c.args.folder.now = search rules in
    first_walk c.args.most c.args.folder.now c.new.result c.walk_on.result (g.T.Tree.state c.args.tree.now) (g.T.Tree.state c.walk_on.new.tree) (c.new.ensures ∙ ap (walk_of walk_limits) same) c.walk_on.ensures
