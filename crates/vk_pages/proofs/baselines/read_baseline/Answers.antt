use Rattle.vk_files.proofs.FindLemmas.{finds_lacking, learned_so}
use Rattle.vk_files.proofs.ReadLemmas.{told_itself}
use Rattle.vk_pages.specs.Homes.{baseline_file}
use Rattle.vk_pages.specs.HomeViews.{served_view}
use Rattle.vk_pages.proofs.baselines.read_baseline.Goals as goal

pub returns-in_err-path : goal.returns-in_err-path
returns-in_err-path g c = finds_lacking c.from_residual.ensures.1 (λ f known. known)

pub returns : goal.returns
returns g c =
    let read = rw c.in_ok-path.ensures at c.read.ensures.reads in
    record { reads = learned_so c.or_bad.ensures.failed (λ f known. (known, λ p has. has)) (λ f before known gives. (known, c.or_bad.ensures.told _ (rw (told_itself (baseline_file (served_view c.args.served.now) f)) at gives))) read.reads }
