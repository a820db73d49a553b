use Rattle.std.proofs.Common.{refl}
use Rattle.vk_config.specs.Views.{config_view}
use Rattle.vk_model.specs.Views.{manifest_view}
use Rattle.vk_files.proofs.FindLemmas.{finds_both, finds_ended, finds_here, finds_stopped, finds_then}
use Rattle.vk_opening.specs.Asked.{overlays_asked}
use Rattle.vk_opening.specs.Openings.{after_triplets, after_overlays}
use Rattle.vk_opening.specs.Views.{triplets_view}
use Rattle.vk_opening.proofs.opens.read_found.Goals as goal

pub returns-in_err-triplets : goal.returns-in_err-triplets
returns-in_err-triplets g c =
    let project = c.args.project.now in
    let config = config_view c.args.config.now in
    finds_stopped (after_triplets project (manifest_view c.args.root.now) config) (λ triplets f. overlays_asked project config f) c.in_err-triplets.ensures c.from_residual.ensures.1

pub returns-in-Err : goal.returns-in-Err
returns-in-Err g c =
    let project = c.args.project.now in
    let root = manifest_view c.args.root.now in
    let config = config_view c.args.config.now in
    finds_then (after_triplets project root config) (λ triplets f. overlays_asked project config f) c.in_ok-triplets.ensures
    (finds_ended (after_overlays project root config (triplets_view c.in_ok-triplets.triplets)) (rw c.in-Err.is at c.overlays_of.ensures) refl)

pub returns-in-Ok : goal.returns-in-Ok
returns-in-Ok g c =
    let project = c.args.project.now in
    let root = manifest_view c.args.root.now in
    let config = config_view c.args.config.now in
    finds_then (after_triplets project root config) (λ triplets f. overlays_asked project config f) c.in_ok-triplets.ensures
    (finds_both (after_overlays project root config (triplets_view c.in_ok-triplets.triplets)) (rw c.in-Ok.is at c.overlays_of.ensures)
    (finds_here c.found_with.ensures.calm (λ f. c.found_with.ensures.given config)))
