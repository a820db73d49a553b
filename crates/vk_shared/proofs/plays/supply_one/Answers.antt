use Rattle.std.proofs.Common.{ap, sym, ◌∙◌}
use Rattle.std.specs.Option.{option_copied}
use Rattle.vk_shared.proofs.PlayStages.{meant_none, meant_some}
use Rattle.vk_shared.proofs.plays.supply_one.Goals as goal

pub returns-in_ok-copy_of-in-Some-clause-left : goal.returns-in_ok-copy_of-in-Some-clause-left
returns-in_ok-copy_of-in-Some-clause-left c = c.supply.ensures.left _ (meant_some c.args.packages.now c.args.making.now c.args.item _ _ c.requires (sym c.meant_at.ensures ∙ ap option_copied c.in-Some.is) c.in_ok-copy_of-in-Some.ensures)

pub returns-in-None-clause-left : goal.returns-in-None-clause-left
returns-in-None-clause-left c = c.refuse.ensures.left _ (meant_none c.args.packages.now c.args.making.now c.args.item c.requires (sym c.meant_at.ensures ∙ ap option_copied c.in-None.is))
