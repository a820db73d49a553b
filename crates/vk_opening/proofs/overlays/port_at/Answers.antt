use Rattle.std.proofs.Common.{refl}
use Rattle.vk_files.proofs.FindLemmas.{finds_as, finds_none}
use Rattle.vk_opening.proofs.overlays.port_at.Goals as goal

pub returns-in_err-manifest : goal.returns-in_err-manifest
returns-in_err-manifest g c = finds_none c.in_err-manifest.ensures c.from_residual.ensures.1

pub returns : goal.returns
returns g c = finds_as refl c.in_ok-manifest.ensures
