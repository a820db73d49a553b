use Rattle.std.proofs.Common.{refl}
use Rattle.vk_files.proofs.FindLemmas.{finds_here}
use Rattle.vk_opening.proofs.overlays.overlay_by.Goals as goal

pub returns-in-Missing : goal.returns-in-Missing
returns-in-Missing g c = rw c.in-Missing.is (finds_here refl (λ f. refl))
