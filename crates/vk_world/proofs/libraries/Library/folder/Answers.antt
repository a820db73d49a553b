use Rattle.std.proofs.Common.{◌∙◌}
use Rattle.vk_world.specs.HomeNotes.{found_home}
use Rattle.vk_world.proofs.LibraryLemmas.{serves_home}
use Rattle.vk_world.proofs.libraries.Library.folder.Goals as goal

pub returns : goal.returns
returns g c = serves_home (found_home c.at.result.now) c.in_ok-place.ensures.serves (c.in_ok-place.ensures.there.found ∙ c.at.ensures) (λ f. c.answer_folder.ensures.told) c.answer_folder.ensures.calm
