use Rattle.vk_catalogue.proofs.shelves.Shelf.known.Goals as goal

pub returns : goal.returns
returns c = rw (← c.self.view_is) c.self.invariant
