use Rattle.std.proofs.Common.{◌∙◌, ap}
use Rattle.std.specs.Prelude.{bytes_eq}
use Rattle.indexmap.proofs.CallerLemmas.{insert_entry-new}
use Rattle.vk_catalogue.specs.PageViews.{page_view}
use Rattle.vk_catalogue.specs.Shelves.{pages_of}
use Rattle.vk_catalogue.proofs.ShelfLemmas.{nothing_held, pages_of_more, more_are_pages}
use Rattle.vk_catalogue.proofs.shelves.Shelf.put.Goals as goal

pub returns-clause-ok : goal.returns-clause-ok
returns-clause-ok c =
    let was = c.self.inside.inner in
    let new = nothing_held was.entries c.args.page.port (rw c.self.view_is c.requires.new) in
    rw (← c.self.view_is) (ap pages_of (c.in_ok-insert.ensures.entries ∙ insert_entry-new bytes_eq was c.args.page.port _ new) ∙ pages_of_more was.entries c.args.page.port _)

pub invariant_of-self-2 : goal.invariant_of-self-2
invariant_of-self-2 c =
    let was = c.args.self.now in
    rw (returns-clause-ok c) (more_are_pages (pages_of was) c.args.page.port (page_view c.args.page) c.requires.sound (rw (← c.self.view_is) c.self.invariant))

pub invariant_of-self : goal.invariant_of-self
invariant_of-self c = rw c.in_err-insert.ensures.err c.self.invariant
