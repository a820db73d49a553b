use Rattle.vk_app.proofs.EndLemmas.{over_load}
use Rattle.vk_app.proofs.tasks.done_over_load.Goals as goal

pub returns : goal.returns
returns c = over_load c.args.task.now c.args.size _ _ _ c.in_ok-load.ensures c.done_over.ensures
