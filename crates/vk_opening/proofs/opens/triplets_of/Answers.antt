use Rattle.vk_files.proofs.FindLemmas.{finds_lacking}
use Rattle.vk_opening.proofs.opens.triplets_of.Goals as goal

pub returns-in_err-folders : goal.returns-in_err-folders
returns-in_err-folders g c = finds_lacking c.from_residual.ensures.1 (λ f known. known)
