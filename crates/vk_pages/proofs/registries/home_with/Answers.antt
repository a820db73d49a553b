use Rattle.std.proofs.Common.{refl}
use Rattle.vk_files.proofs.FindLemmas.{finds_both, finds_ended, finds_here}
use Rattle.vk_pages.proofs.registries.home_with.Goals as goal

pub returns-in-Ok : goal.returns-in-Ok
returns-in-Ok g c = finds_both _ (rw c.in-Ok.is at c.table_in.ensures) (finds_here refl (λ f. refl))

pub returns-in-Err : goal.returns-in-Err
returns-in-Err g c = finds_ended _ (rw c.in-Err.is at c.table_in.ensures) refl
