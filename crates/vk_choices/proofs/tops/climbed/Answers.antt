use Rattle.std.proofs.Common.{subst}
use Rattle.vk_choices.specs.Tops.{LeadsUp}
use Rattle.vk_choices.proofs.TopLemmas.{whole}
use Rattle.vk_choices.proofs.tops.climbed.Goals as goal

pub returns : goal.returns
returns c = subst (λ l. LeadsUp c.args.floors.now l c.args.version.now c.loop-place.top) (whole c.args.floors.now c.loop-place.place c.loop-place-test.false) c.loop-place.invariant
