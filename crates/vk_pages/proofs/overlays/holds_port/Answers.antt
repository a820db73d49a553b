use Rattle.vk_files.proofs.FindLemmas.{finds_lacking}
use Rattle.vk_pages.proofs.overlays.holds_port.Goals as goal

pub returns-in_err-folder : goal.returns-in_err-folder
returns-in_err-folder g c = finds_lacking c.from_residual.ensures.1 (λ f known. known)

pub returns-in_err-path : goal.returns-in_err-path
returns-in_err-path g c = finds_lacking c.from_residual-in_err-path.ensures.1 (λ f known. known)

pub returns : goal.returns
returns g c = rw (c.in_ok-path.ensures, c.in_ok-folder.ensures) at c.is_at.ensures
