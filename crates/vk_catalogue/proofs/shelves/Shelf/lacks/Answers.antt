use Rattle.std.proofs.Common.{refl, sym}
use Rattle.vk_catalogue.proofs.ShelfLemmas.{lacks_page, has_page}
use Rattle.vk_catalogue.proofs.shelves.Shelf.lacks.Goals as goal

pub returns-in-None : goal.returns-in-None
returns-in-None c = rw (← c.self.view_is) ((λ e. lacks_page c.self.inside.inner.entries c.args.port.now (sym c.in-None.ensures.value)), (λ e. refl))

pub returns-in-Some : goal.returns-in-Some
returns-in-Some c = rw (← c.self.view_is) ((λ e. (cc)), (λ e. absurd (has_page c.self.inside.inner.entries c.args.port.now c.in-Some.field-0.now (sym c.in-Some.ensures.value) e)))
