use Rattle.vk_files.proofs.FindLemmas.{finds_stopped, finds_then}
use Rattle.vk_opening.specs.Asked.{stored_paths}
use Rattle.vk_opening.specs.Openings.{stored}
use Rattle.vk_opening.proofs.opens.read_stored.Goals as goal

pub returns-in_err-opening : goal.returns-in_err-opening
returns-in_err-opening g c =
    finds_stopped (λ o f. stored c.args.project.now c.args.store.now o f) (λ o f. stored_paths c.args.project.now c.args.store.now o.layout.config f) c.in_err-opening.ensures c.from_residual.ensures.1

pub returns : goal.returns
returns g c =
    finds_then (λ o f. stored c.args.project.now c.args.store.now o f) (λ o f. stored_paths c.args.project.now c.args.store.now o.layout.config f) c.in_ok-opening.ensures c.stored.ensures
