use Rattle.vk_spec.specs.Catalogues.{SaysVersion}
use Rattle.vk_version.specs.AskViews.{ask_view}
use Rattle.vk_world.proofs.WorldLemmas.{still_sound, asks_served}
use Rattle.vk_world.proofs.worlds.WorldCatalogue.version.Goals as goal

pub invariant_of-self : goal.invariant_of-self
invariant_of-self g c = still_sound c.self.invariant c.version.ensures

pub returns : goal.returns
returns g c = rw (← c.self.view_is) (asks_served c.self.invariant c.version.ensures (λ v. v) (SaysVersion (ask_view c.args.ask.now)) (λ t told x says. says))
