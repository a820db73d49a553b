use Rattle.std.proofs.Common.{◌∙◌}
use Rattle.vk_pages.proofs.BaselineLemmas.{note_gives}
use Rattle.vk_pages.proofs.baselines.Baselines.given.Goals as goal

pub returns : goal.returns
returns g c = note_gives c.args.served.now c.args.port.now _ _ (c.in_ok-place.ensures.there.found ∙ c.at.ensures) c.given_in.ensures.calm c.given_in.ensures.told c.in_ok-place.ensures.noted
