use Rattle.std.proofs.Common.{◌∙◌, sym, ap}
use Rattle.vk_spec.specs.Pages.{row_in}
use Rattle.vk_version.specs.AskViews.{ask_view}
use Rattle.vk_catalogue.specs.Shelves.{page_or_none}
use Rattle.vk_catalogue.proofs.ShelfLemmas.{row_view_found}
use Rattle.vk_catalogue.proofs.shelves.Shelf.row.Goals as goal

pub returns-in-Some : goal.returns-in-Some
returns-in-Some c = rw (c.row_for.ensures, c.as_slice.ensures) (sym (row_view_found c.in-Some.held.now.rows (ask_view c.args.ask.now)) ∙ ap (λ o. row_in (page_or_none o).rows (ask_view c.args.ask.now)) c.in-Some.ensures)
