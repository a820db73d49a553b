use Rattle.std.proofs.Common.{◌∙◌, ap, filter}
use Rattle.vk_planset.specs.Places.{has_choice}
use Rattle.vk_planset.proofs.orders.chosen_in.Goals as goal

pub returns-in-Some : goal.returns-in-Some
returns-in-Some c = c.if_chosen.ensures ∙ ap (filter (has_choice c.args.choices.now.ports.entries)) c.in-Some.ensures
