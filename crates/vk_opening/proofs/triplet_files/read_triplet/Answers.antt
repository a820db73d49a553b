use Rattle.vk_files.proofs.FindLemmas.{finds_lacking}
use Rattle.vk_opening.specs.TripletFiles.{triplet_at}
use Rattle.vk_opening.proofs.triplet_files.read_triplet.Goals as goal

pub returns-in_err-paths : goal.returns-in_err-paths
returns-in_err-paths g c = finds_lacking c.from_residual.ensures.1 (λ f known. known)

pub returns : goal.returns
unfolding triplet_at
returns g c = rw (c.as_slice.ensures, c.in_ok-paths.ensures) at c.first_triplet.ensures
