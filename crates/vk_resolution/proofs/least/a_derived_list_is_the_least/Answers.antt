use Rattle.vk_resolution.proofs.LeastLemmas.{derived_least}
use Rattle.vk_resolution.proofs.least.a_derived_list_is_the_least.Goals as goal

pub returns : goal.returns
returns g c = record { least = derived_least }
