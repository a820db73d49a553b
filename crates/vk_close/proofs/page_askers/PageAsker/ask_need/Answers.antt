use Rattle.std.proofs.Common.{◌∙◌}
use Rattle.std.specs.Prelude.{option_map}
use Rattle.vk_model.specs.WrongViews.{given_view}
use Rattle.vk_worklist.specs.Entries.{reasons_in}
use Rattle.vk_close.proofs.KnownLemmas.{given_kept, given_brought, given_clear, mapped_some}
use Rattle.vk_close.proofs.page_askers.PageAsker.ask_need.Goals as goal

pub returns-clause-brought : goal.returns-clause-brought
returns-clause-brought g c =
    given_brought (g.C.Catalogue.state c.args.cat.now).pages c.args.line c.args.port.now (option_map given_view c.known_at-known.result.now.given) (reasons_in c.args.brought.now.items) (reasons_in c.push_given.new.brought.items) c.in_ok-push_given.ensures
    (given_kept c.see_to.new.self c.args.port.now c.known_at-known.result.now (c.known_at-known.ensures c.args.port.now c.in_ok-place.ensures.there) (g.C.Catalogue.state c.args.cat.now).pages c.in_ok-place.ensures.kept)

pub returns-clause-clear : goal.returns-clause-clear
returns-clause-clear g c =
    given_clear (g.C.Catalogue.state c.args.cat.now).pages c.args.port.now (option_map given_view c.known_at-known.result.now.given) c.is_some.result (c.is_some.ensures ∙ mapped_some given_view c.known_at-known.result.now.given)
    (given_kept c.see_to.new.self c.args.port.now c.known_at-known.result.now (c.known_at-known.ensures c.args.port.now c.in_ok-place.ensures.there) (g.C.Catalogue.state c.args.cat.now).pages c.in_ok-place.ensures.kept)
