use Rattle.std.proofs.Common.{◌∙◌}
use Rattle.vk_version.specs.AskViews.{ask_view}
use Rattle.vk_world.specs.HomeNotes.{found_home}
use Rattle.vk_world.proofs.LearnLemmas.{learns_stopped}
use Rattle.vk_world.proofs.LibraryLemmas.{serves_manifest}
use Rattle.vk_world.proofs.libraries.Library.read_manifest.Goals as goal

pub returns : goal.returns
returns g c = serves_manifest (ask_view c.args.ask.now) (found_home c.at-found.result.now) c.in_ok-place.ensures.serves (c.in_ok-place.ensures.there.found ∙ c.at-found.ensures) c.manifest_for.ensures

pub returns-in_err-place : goal.returns-in_err-place
returns-in_err-place g c = record {
  learns = learns_stopped c.from_residual.ensures.1 (λ f right. right) (λ f before right. right) c.in_err-place.ensures.serves.learns;
  stays = c.in_err-place.ensures.serves.stays;
}
