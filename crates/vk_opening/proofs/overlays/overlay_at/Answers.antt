use Rattle.vk_files.proofs.FindLemmas.{finds_both, finds_ended, finds_lacking}
use Rattle.vk_opening.specs.Overlays.{overlay_by, overlay_at}
use Rattle.vk_opening.proofs.overlays.overlay_at.Goals as goal

pub returns-in_err-path : goal.returns-in_err-path
returns-in_err-path g c = finds_lacking c.from_residual.ensures.1 (λ f known. known)

pub returns-in_err-standing : goal.returns-in_err-standing
unfolding overlay_at
returns-in_err-standing g c = finds_ended (λ standing f. overlay_by standing c.args.folder f) (rw c.in_ok-path.ensures at c.in_err-standing.ensures.reads) c.from_residual-in_err-standing.ensures.1

pub returns : goal.returns
unfolding overlay_at
returns g c = finds_both (λ standing f. overlay_by standing c.args.folder f) (rw c.in_ok-path.ensures at c.in_ok-standing.ensures.reads) c.overlay_by.ensures
