use Rattle.vk_files.proofs.FindLemmas.{finds_here}
use Rattle.vk_opening.proofs.configurations.config_by.Goals as goal

pub returns-in-Missing : goal.returns-in-Missing
returns-in-Missing g c = rw c.in-Missing.is (finds_here c.embedded_in.ensures.calm (λ f. c.embedded_in.ensures.given))
