use Rattle.std.proofs.Common.{refl}
use Rattle.vk_opening.specs.Views.{overlay_view}
use Rattle.vk_pages.specs.Asked.{overlay_path, registry_paths, elsewhere}
use Rattle.vk_pages.specs.Homes.{has_port, home_by}
use Rattle.vk_opening.specs.Views.{layout_view}
use Rattle.vk_files.proofs.FindLemmas.{finds_known, finds_then, finds_again, finds_stopped}
use Rattle.vk_files.proofs.FirstLemmas.{found_within}
use Rattle.vk_pages.proofs.homes.home_of.Goals as goal

pub returns-in_err-overlay : goal.returns-in_err-overlay
returns-in_err-overlay g c =
    let layout = layout_view c.args.layout.now in
    let port = c.args.port.now in
    finds_stopped (λ found f. home_by found layout port f) (λ found f. elsewhere found (registry_paths layout f port)) (finds_known (rw c.as_slice.ensures at c.in_err-overlay.ensures)) c.from_residual.ensures.1

pub returns-in-Some : goal.returns-in-Some
returns-in-Some g c =
    let layout = layout_view c.args.layout.now in
    let port = c.args.port.now in
    finds_again (λ found f. home_by found layout port f) (λ found f. elsewhere found (registry_paths layout f port)) (finds_known (rw (c.as_slice.ensures, c.in-Some.is) at c.in_ok-overlay.ensures))
    (finds_known c.home_in.ensures) (λ f. found_within (overlay_path port) (has_port port f) layout.overlays (overlay_view c.in-Some.overlay.now) refl)

pub returns-in-None : goal.returns-in-None
returns-in-None g c =
    let layout = layout_view c.args.layout.now in
    let port = c.args.port.now in
    finds_then (λ found f. home_by found layout port f) (λ found f. elsewhere found (registry_paths layout f port)) (finds_known (rw (c.as_slice.ensures, c.in-None.is) at c.in_ok-overlay.ensures)) c.registry_home.ensures
