use Rattle.vk_spec.specs.Catalogues.{SaysGiven}
use Rattle.vk_catalogue.specs.Views.{given_said}
use Rattle.vk_world.proofs.WorldLemmas.{still_sound, asks_served}
use Rattle.vk_world.proofs.worlds.WorldCatalogue.given.Goals as goal

pub invariant_of-self : goal.invariant_of-self
invariant_of-self g c = still_sound c.self.invariant c.given.ensures

pub returns : goal.returns
returns g c = rw (← c.self.view_is) (asks_served c.self.invariant c.given.ensures given_said SaysGiven (λ t told x says. says))
