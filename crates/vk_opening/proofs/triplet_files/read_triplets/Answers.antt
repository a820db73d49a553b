use Rattle.std.proofs.Common.{refl}
use Rattle.vk_files.proofs.FindLemmas.{finds_both, finds_ended, finds_here, finds_stopped, finds_then}
use Rattle.vk_opening.specs.Asked.{tried_paths}
use Rattle.vk_opening.specs.TripletFiles.{triplets_at}
use Rattle.vk_opening.proofs.ReadLemmas.{after_first, after_second}
use Rattle.vk_opening.proofs.triplet_files.read_triplets.Goals as goal

pub returns-in_err-target : goal.returns-in_err-target
unfolding triplets_at
returns-in_err-target g c =
    finds_stopped (after_first c.args.host.now c.args.folders.now) (λ first f. tried_paths c.args.host.now c.args.folders.now f) c.in_err-target.ensures c.from_residual.ensures.1

pub returns-in_err-host : goal.returns-in_err-host
unfolding triplets_at
returns-in_err-host g c =
    finds_then (after_first c.args.host.now c.args.folders.now) (λ first f. tried_paths c.args.host.now c.args.folders.now f) c.in_ok-target.ensures
    (finds_ended (after_second _) c.in_err-host.ensures c.from_residual-in_err-host.ensures.1)

pub returns : goal.returns
unfolding triplets_at
returns g c =
    finds_then (after_first c.args.host.now c.args.folders.now) (λ first f. tried_paths c.args.host.now c.args.folders.now f) c.in_ok-target.ensures
    (finds_both (after_second _) c.in_ok-host.ensures (finds_here refl (λ f. refl)))
