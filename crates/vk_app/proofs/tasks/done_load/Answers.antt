use Rattle.std.proofs.Common.{refl}
use Rattle.vk_app.proofs.EndLemmas.{lacks_load}
use Rattle.vk_app.proofs.tasks.done_load.Goals as goal

pub returns-in-Ok-clause-end : goal.returns-in-Ok-clause-end
returns-in-Ok-clause-end g c = rw c.in-Ok.is at c.done_over_load.ensures

pub returns-in-Err-clause-end : goal.returns-in-Err-clause-end
returns-in-Err-clause-end g c = lacks_load c.args.task.now c.args.size _ refl
