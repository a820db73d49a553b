use Rattle.std.proofs.Common.{◌≡◌}
use Rattle.std.specs.Prelude.{is_some, option_map}
use Rattle.vk_spec.specs.Pages.{version_in}
use Rattle.vk_spec.proofs.AskLemmas.{pages_before, pages_after}
use Rattle.vk_version.specs.AskViews.{ask_view}
use Rattle.vk_model.specs.SettingViews.{setting_view}
use Rattle.vk_model.specs.WrongViews.{given_view}
use Rattle.vk_close.specs.Floors.{found_by}
use Rattle.vk_close.specs.Known.{given_in}
use Rattle.vk_close.proofs.KnownLemmas.{given_kept}
use Rattle.vk_close.proofs.FloorLemmas.{visited_here, clear_here, base_here}
use Rattle.vk_close.proofs.page_askers.PageAsker.ask_floor.Goals as goal

pub find-requires : goal.find-requires
find-requires g c =
    pages_after (λ pages. option_map given_view c.known_at-known.result.now.given ≡ given_in (pages c.args.port.now).given) c.in_ok-place.ensures.asked
    (given_kept c.see_to.new.self c.args.port.now c.known_at-known.result.now (c.known_at-known.ensures c.args.port.now c.in_ok-place.ensures.there) (g.C.Catalogue.state c.args.cat.now).pages c.in_ok-place.ensures.kept)

pub returns-clause-joined : goal.returns-clause-joined
returns-clause-joined g c =
    visited_here c.see_to.new.self (setting_view c.args.self.now.setting.now) c.args.port.now (ask_view c.args.ask.now) c.known_at-known.result.now c.in_ok-found.found (c.known_at-known.ensures c.args.port.now c.in_ok-place.ensures.there)
    (g.C.Catalogue.state c.args.cat.now).pages (is_some c.seen_floor-seen.result.seat) c.seen_floor-seen.ensures.joined c.in_ok-place.ensures.kept
    (pages_before (λ pages. c.in_ok-found.found ≡ found_by (option_map given_view c.known_at-known.result.now.given) (version_in (pages c.args.port.now) (ask_view c.args.ask.now))) c.in_ok-place.ensures.asked c.in_ok-found.ensures.found)

pub returns-clause-clear : goal.returns-clause-clear
returns-clause-clear g c =
    clear_here c.see_to.new.self (setting_view c.args.self.now.setting.now) c.args.port.now (ask_view c.args.ask.now) c.known_at-known.result.now c.in_ok-found.found (c.known_at-known.ensures c.args.port.now c.in_ok-place.ensures.there)
    (g.C.Catalogue.state c.args.cat.now).pages c.seen_floor-seen.result.clear c.seen_floor-seen.ensures.clear c.in_ok-place.ensures.kept
    (pages_before (λ pages. c.in_ok-found.found ≡ found_by (option_map given_view c.known_at-known.result.now.given) (version_in (pages c.args.port.now) (ask_view c.args.ask.now))) c.in_ok-place.ensures.asked c.in_ok-found.ensures.found)

pub returns-then-is_base-clause-joined : goal.returns-then-is_base-clause-joined
returns-then-is_base-clause-joined g c =
    visited_here c.see_to.new.self (setting_view c.args.self.now.setting.now) c.args.port.now (ask_view c.args.ask.now) c.known_at-known.result.now c.known_at-known.result.now.base (c.known_at-known.ensures c.args.port.now c.in_ok-place.ensures.there)
    (g.C.Catalogue.state c.args.cat.now).pages (is_some c.seen_floor.result.seat) c.seen_floor.ensures.joined c.in_ok-place.ensures.kept
    (base_here c.see_to.new.self c.args.port.now (ask_view c.args.ask.now) c.known_at-known.result.now c.is_base.result (c.known_at-known.ensures c.args.port.now c.in_ok-place.ensures.there) c.is_base.ensures c.if-is_base.true (g.C.Catalogue.state c.args.cat.now).pages c.in_ok-place.ensures.kept)

pub returns-then-is_base-clause-clear : goal.returns-then-is_base-clause-clear
returns-then-is_base-clause-clear g c =
    clear_here c.see_to.new.self (setting_view c.args.self.now.setting.now) c.args.port.now (ask_view c.args.ask.now) c.known_at-known.result.now c.known_at-known.result.now.base (c.known_at-known.ensures c.args.port.now c.in_ok-place.ensures.there)
    (g.C.Catalogue.state c.args.cat.now).pages c.seen_floor.result.clear c.seen_floor.ensures.clear c.in_ok-place.ensures.kept
    (base_here c.see_to.new.self c.args.port.now (ask_view c.args.ask.now) c.known_at-known.result.now c.is_base.result (c.known_at-known.ensures c.args.port.now c.in_ok-place.ensures.there) c.is_base.ensures c.if-is_base.true (g.C.Catalogue.state c.args.cat.now).pages c.in_ok-place.ensures.kept)
