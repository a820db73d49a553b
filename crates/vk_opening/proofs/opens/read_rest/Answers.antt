use Rattle.std.proofs.Common.{refl}
use Rattle.vk_model.specs.Views.{manifest_view}
use Rattle.vk_files.proofs.FindLemmas.{finds_stopped, finds_then}
use Rattle.vk_opening.specs.Asked.{found_paths}
use Rattle.vk_opening.specs.Openings.{after_config}
use Rattle.vk_opening.proofs.opens.read_rest.Goals as goal

pub returns-in-Ok : goal.returns-in-Ok
returns-in-Ok g c =
    finds_then (after_config c.args.project.now (manifest_view c.args.root.manifest)) (λ config f. found_paths c.args.project.now config f) (rw c.in-Ok.is at c.read_configuration.ensures) c.read_configured.ensures

pub returns-in-Err : goal.returns-in-Err
returns-in-Err g c =
    finds_stopped (after_config c.args.project.now (manifest_view c.args.root.manifest)) (λ config f. found_paths c.args.project.now config f) (rw c.in-Err.is at c.read_configuration.ensures) refl
