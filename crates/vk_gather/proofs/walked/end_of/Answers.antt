use Rattle.vk_gather.proofs.GatherSteps.{nothing_found}
use Rattle.vk_gather.proofs.walked.end_of.Goals as goal

pub returns-in-Ok : goal.returns-in-Ok
returns-in-Ok c = nothing_found c.args.walk c.in-Ok.found c.new.result c.in-Ok.ensures c.new.ensures
