use Rattle.std.proofs.Common.{refl}
use Rattle.vk_files.proofs.FindLemmas.{finds_both, finds_ended, finds_here, finds_lacking}
use Rattle.vk_pages.specs.Pages.{row_manifest}
use Rattle.vk_world.proofs.row_manifests.row_manifest.Goals as goal

pub returns-in_err-path : goal.returns-in_err-path
returns-in_err-path g c = finds_lacking c.from_residual.ensures.1 (λ f known. known)

pub returns-in_err-manifest : goal.returns-in_err-manifest
unfolding row_manifest
returns-in_err-manifest g c = finds_ended _ (rw c.in_ok-path.ensures at c.in_err-manifest.ensures.reads) c.from_residual-in_err-manifest.ensures.1

pub returns : goal.returns
unfolding row_manifest
returns g c = finds_both _ (rw c.in_ok-path.ensures at c.in_ok-manifest.ensures.reads) (finds_here c.agreed.ensures.calm (λ f. rw c.in_ok-path.ensures at c.agreed.ensures.told))
