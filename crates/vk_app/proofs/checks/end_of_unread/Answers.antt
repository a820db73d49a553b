use Rattle.vk_app.specs.Ends.{whole}
use Rattle.vk_app.proofs.checks.end_of_unread.Goals as goal

pub returns-in-Failed : goal.returns-in-Failed
returns-in-Failed c = rw c.in-Failed.is whole

pub returns-in-Memory : goal.returns-in-Memory
returns-in-Memory c = rw c.in-Memory.is whole
