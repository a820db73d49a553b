use Rattle.vk_gather.proofs.SeenSteps.{seen_joined, seen_steps}
use Rattle.vk_gather.proofs.files.path_of.Goals as goal

pub join-requires : goal.join-requires
join-requires c = seen_steps c.args.folder.now c.args.seen.now c.known.ensures c.requires

pub returns : goal.returns
returns c = seen_joined c.args.folder.now c.args.seen.now c.join.result c.known.ensures c.requires c.join.ensures
