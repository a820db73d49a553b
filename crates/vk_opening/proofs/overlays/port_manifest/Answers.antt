use Rattle.std.proofs.Common.{ap, refl, sym}
use Rattle.std.specs.Prelude.{Ok}
use Rattle.vk_model.specs.Views.{manifest_view}
use Rattle.vk_files.proofs.FindLemmas.{finds_both, finds_ended, finds_here, finds_lacked}
use Rattle.vk_opening.specs.Layouts.{is_port}
use Rattle.vk_opening.proofs.overlays.port_manifest.Goals as goal

pub returns-in_err-manifest : goal.returns-in_err-manifest
returns-in_err-manifest g c =
    finds_ended (λ manifest f. Ok (is_port c.args.folder.now manifest)) c.in_err-manifest.ensures c.from_residual.ensures.1

pub returns-in_err-new : goal.returns-in_err-new
returns-in_err-new g c = finds_lacked c.in_ok-manifest.ensures.reads c.from_residual-in_err-new.ensures.1

pub returns : goal.returns
returns g c =
    finds_both (λ manifest f. Ok (is_port c.args.folder.now manifest)) c.in_ok-manifest.ensures
    (finds_here refl (λ f. ap (λ m. Ok (is_port c.args.folder.now (manifest_view m))) (sym c.in_ok-new.ensures.ok)))
