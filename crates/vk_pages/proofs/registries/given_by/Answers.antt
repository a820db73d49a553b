use Rattle.vk_files.proofs.FindLemmas.{finds_here}
use Rattle.vk_pages.proofs.registries.given_by.Goals as goal

pub returns-in-Some : goal.returns-in-Some
returns-in-Some g c = rw c.in-Some.is (finds_here c.override_given.ensures.calm (λ f. c.override_given.ensures.told))
