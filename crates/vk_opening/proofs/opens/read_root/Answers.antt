use Rattle.vk_files.proofs.FindLemmas.{finds_lacking}
use Rattle.vk_opening.proofs.opens.read_root.Goals as goal

pub returns-in_err-path : goal.returns-in_err-path
returns-in_err-path g c = finds_lacking c.from_residual.ensures.1 (λ f known. known)
