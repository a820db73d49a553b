use Rattle.vk_files.proofs.FindLemmas.{finds_stopped, finds_then}
use Rattle.vk_opening.specs.Asked.{rest_paths}
use Rattle.vk_opening.specs.Openings.{opened_of, after_root}
use Rattle.vk_opening.proofs.opens.read_opening.Goals as goal

pub returns-in_err-root : goal.returns-in_err-root
unfolding opened_of
returns-in_err-root g c = finds_stopped (after_root c.args.project.now) (λ root f. rest_paths c.args.project.now root f) c.in_err-root.ensures c.from_residual.ensures.1

pub returns : goal.returns
unfolding opened_of
returns g c = finds_then (after_root c.args.project.now) (λ root f. rest_paths c.args.project.now root f) c.in_ok-root.ensures c.read_rest.ensures
