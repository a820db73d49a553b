use Rattle.std.proofs.Common.{refl}
use Rattle.std.proofs.lemmas.List.Elements.{Contains-append_left}
use Rattle.vk_pages.specs.Asked.{home_paths}
use Rattle.vk_opening.specs.Views.{layout_view}
use Rattle.vk_world.proofs.LearnLemmas.{learns_so}
use Rattle.vk_world.proofs.libraries.Library.look.Goals as goal

pub returns-clause-serves : goal.returns-clause-serves
returns-clause-serves g c = record {
  learns = learns_so refl (λ f right. (right.homes, λ p. Contains-append_left (home_paths (layout_view c.args.self.now.layout) f c.args.port.now) _ p)) (λ f right homes says. (record { homes = homes; manifests = right.manifests }, says)) c.look.ensures.learns;
  stays = record { layout = refl; opened = refl };
}
