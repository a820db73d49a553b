use Rattle.std.proofs.Common.{◌∙◌, sym, ap, refl}
use Rattle.std.specs.Prelude.{option_map}
use Rattle.std.specs.Option.{option_copied}
use Rattle.vk_version.specs.AskViews.{ask_view}
use Rattle.vk_files.specs.Views.{held}
use Rattle.vk_world.specs.Libraries.{Serves, SaysManifestAt}
use Rattle.vk_world.specs.ManifestNotes.{kept_manifest}
use Rattle.vk_world.proofs.LearnLemmas.{learns_lacking}
use Rattle.vk_world.proofs.LibraryLemmas.{serves_again}
use Rattle.vk_world.proofs.libraries.Library.manifest.Goals as goal

pub returns-in_err-key : goal.returns-in_err-key
returns-in_err-key g c = record { learns = learns_lacking c.from_residual.ensures.1 (λ f right. right); stays = record { layout = refl; opened = refl } }

pub returns-in-Some : goal.returns-in-Some
returns-in-Some g c =
    let lib = c.args.self.now in
    let again : Serves c.shared.result (SaysManifestAt c.in_ok-key.key.port (ask_view c.in_ok-key.key.ask)) c.in_ok-key.key.port lib lib (held g.T.Tree.state c.args.archive.now) (held g.T.Tree.state c.args.archive.now) =
    serves_again c.in_ok-key.key (kept_manifest c.in-Some.found.now) (sym c.get.ensures ∙ ap (λ o. option_map kept_manifest (option_copied o)) c.in-Some.is) c.shared.ensures.told c.shared.ensures.calm in
    rw (c.in_ok-key.ensures.port, c.in_ok-key.ensures.ask) at again

pub returns-in-None : goal.returns-in-None
returns-in-None g c = rw (c.in_ok-key.ensures.port, c.in_ok-key.ensures.ask) at c.new_manifest.ensures
