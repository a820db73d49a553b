use Rattle.std.proofs.Common.{refl}
use Rattle.vk_files.specs.Readings.{is_at}
use Rattle.vk_files.proofs.FindLemmas.{finds_both, finds_ended, finds_here, finds_inside}
use Rattle.vk_opening.specs.TripletFiles.{triplet_from}
use Rattle.vk_files.proofs.FirstLemmas.{found_again}
use Rattle.vk_opening.proofs.triplet_files.first_triplet.Goals as goal

pub returns-in_err-path : goal.returns-in_err-path
returns-in_err-path g c = finds_ended (λ path f. triplet_from c.args.name.now path f) c.in_err-path.ensures c.from_residual.ensures.1

pub returns-in-Some : goal.returns-in-Some
returns-in-Some g c =
    finds_inside (λ path f. triplet_from c.args.name.now path f) (rw c.in-Some.is at c.in_ok-path.ensures) c.read.ensures.reads (λ f is. found_again is_at c.args.paths.now f refl is)

pub returns-in-None : goal.returns-in-None
returns-in-None g c = finds_both (λ path f. triplet_from c.args.name.now path f) (rw c.in-None.is at c.in_ok-path.ensures) (finds_here c.no_triplet.ensures.calm (λ f. c.no_triplet.ensures.told))
