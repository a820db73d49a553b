use Rattle.std.proofs.Common.{[], ◌∷◌}
use Rattle.vk_shared.proofs.stocks.Stock.add.Goals as goal

pub returns-clause-grows : goal.returns-clause-grows
returns-clause-grows c = (c.args.item.built ∷ [], rw (← c.self.view_is) c.in_ok-push-2.ensures.ok)
