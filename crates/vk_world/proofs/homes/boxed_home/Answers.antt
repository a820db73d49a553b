use Rattle.std.proofs.Common.{refl, ap, ◌∙◌}
use Rattle.vk_world.specs.HomeNotes.{found_home}
use Rattle.vk_world.proofs.LearnLemmas.{learns_so}
use Rattle.vk_world.proofs.homes.boxed_home.Goals as goal

pub returns : goal.returns
returns g c = learns_so refl (λ f before. (before, λ p has. has)) (λ f before after says. (after, ap found_home c.in_ok-new.ensures.ok ∙ says)) c.in_ok-home.ensures
