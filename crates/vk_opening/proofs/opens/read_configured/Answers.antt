use Rattle.std.proofs.Common.{refl}
use Rattle.vk_files.proofs.FindLemmas.{finds_as, finds_none}
use Rattle.vk_opening.proofs.opens.read_configured.Goals as goal

pub returns-in-Ok : goal.returns-in-Ok
returns-in-Ok g c = finds_as c.put_together.ensures (rw c.in-Ok.is at c.read_found.ensures)

pub returns-in-Err : goal.returns-in-Err
returns-in-Err g c = finds_none (rw c.in-Err.is at c.read_found.ensures) refl
