use Rattle.vk_files.proofs.FindLemmas.{finds_lacking}
use Rattle.vk_opening.proofs.overlays.port_file.Goals as goal

pub returns-in_err-path : goal.returns-in_err-path
returns-in_err-path g c = finds_lacking c.from_residual.ensures.1 (λ f known. known)

pub returns : goal.returns
returns g c = rw c.in_ok-path.ensures at c.read.ensures.reads
