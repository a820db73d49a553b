use Rattle.std.proofs.Common.{refl}
use Rattle.vk_files.proofs.FindLemmas.{finds_both, finds_ended, finds_here}
use Rattle.vk_pages.specs.Homes.{overlay_home}
use Rattle.vk_pages.proofs.overlays.folder_home.Goals as goal

pub returns-in-Ok : goal.returns-in-Ok
returns-in-Ok g c = finds_both (λ m f. overlay_home c.args.folder m) (rw c.in-Ok.is at c.named_manifest.ensures) (finds_here c.port_home.ensures.calm (λ f. c.port_home.ensures.told))

pub returns-in-Err : goal.returns-in-Err
returns-in-Err g c = finds_ended (λ m f. overlay_home c.args.folder m) (rw c.in-Err.is at c.named_manifest.ensures) refl
