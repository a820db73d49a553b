use Rattle.std.proofs.Common.{ap}
use Rattle.std.specs.Prelude.{Ok}
use Rattle.vk_opening.specs.declared.opens.Found.{Found}
use Rattle.vk_opening.proofs.OpenLemmas.{found_is}
use Rattle.vk_opening.proofs.opens.found_with.Goals as goal

pub returns-in-Ok-clause-given : goal.returns-in-Ok-clause-given
returns-in-Ok-clause-given c config =
    let own = rw c.in-Ok.is at c.own_of.ensures in
    let found : Found = record { own = c.in-Ok.own; triplets = c.args.triplets; overlays = c.args.overlays } in
    ap Ok (found_is c.args.project.now c.args.root.now config found own.folder own.overrides own.features)
