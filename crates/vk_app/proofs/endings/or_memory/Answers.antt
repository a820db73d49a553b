use Rattle.std.proofs.Common.{sym, subst}
use Rattle.vk_app.specs.Ends.{EndsWith, whole, short}
use Rattle.vk_app.proofs.endings.or_memory.Goals as goal

pub returns-in-Ok : goal.returns-in-Ok
returns-in-Ok c shown four made = subst (EndsWith shown) (sym (rw c.in-Ok.is at made)) whole

pub returns-in-Err : goal.returns-in-Err
returns-in-Err c shown four made = short four
