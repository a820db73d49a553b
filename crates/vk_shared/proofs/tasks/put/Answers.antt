use Rattle.vk_shared.proofs.tasks.put.Goals as goal

pub returns : goal.returns
returns c = record { was = c.in_ok-repeated.repeated; noted = c.in_ok-repeated.ensures; put = c.in_ok-push.ensures.items }
