use Rattle.std.proofs.Common.{sym, subst}
use Rattle.vk_spec.specs.Catalogues.{CanAskManifest, OnPage, SaysManifest}
use Rattle.vk_catalogue.specs.Views.{manifest_said}
use Rattle.vk_version.specs.AskViews.{ask_view}
use Rattle.vk_files.specs.Views.{held}
use Rattle.vk_world.specs.Worlds.{state_of}
use Rattle.vk_world.proofs.WorldLemmas.{still_sound, asks_served, on_page}
use Rattle.vk_world.proofs.worlds.WorldCatalogue.manifest.Goals as goal

pub invariant_of-self : goal.invariant_of-self
invariant_of-self g c = still_sound c.self.invariant c.manifest.ensures

pub returns : goal.returns
returns g c =
    let can = subst (λ w. OnPage c.args.port.now (CanAskManifest (ask_view c.args.ask.now)) (state_of g.T.Tree.state w)) (sym c.self.view_is) c.requires in
    rw (← c.self.view_is)
    (asks_served c.self.invariant c.manifest.ensures manifest_said (SaysManifest (ask_view c.args.ask.now))
    (λ t told m says. says (on_page c.args.port.now (CanAskManifest (ask_view c.args.ask.now)) c.self.inside.library (held g.T.Tree.state c.self.inside.archive) t told can).listed))
