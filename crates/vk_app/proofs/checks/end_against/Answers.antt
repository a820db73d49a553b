use Rattle.vk_app.specs.Checked.{made, lacks}
use Rattle.vk_app.proofs.checks.end_against.Goals as goal

pub returns-in-Ok : goal.returns-in-Ok
returns-in-Ok c = made (rw c.in-Ok.is at c.against.ensures)

pub returns-in-Err : goal.returns-in-Err
returns-in-Err c = lacks
