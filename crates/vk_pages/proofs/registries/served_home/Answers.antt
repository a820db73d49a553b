use Rattle.std.proofs.Common.{refl}
use Rattle.vk_files.proofs.FindLemmas.{finds_known, finds_stopped, finds_then}
use Rattle.vk_pages.specs.Homes.{served_home}
use Rattle.vk_pages.proofs.registries.served_home.Goals as goal

pub returns-in-Ok : goal.returns-in-Ok
unfolding served_home
returns-in-Ok g c = finds_then _ _ (rw c.in-Ok.is at c.given_by.ensures) (finds_known c.home_with.ensures)

pub returns-in-Err : goal.returns-in-Err
unfolding served_home
returns-in-Err g c = finds_stopped _ _ (rw c.in-Err.is at c.given_by.ensures) refl
