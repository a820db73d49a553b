use Rattle.std.proofs.Common.{ap, refl, sym}
use Rattle.std.specs.Prelude.{Ok}
use Rattle.vk_files.specs.Readings.{is_there}
use Rattle.vk_files.proofs.FindLemmas.{finds_both, finds_ended, finds_here}
use Rattle.vk_files.proofs.archives.Archive.is_at.Goals as goal

pub returns-in_err-standing : goal.returns-in_err-standing
returns-in_err-standing g c = finds_ended (λ standing f. Ok (is_there standing)) c.in_err-standing.ensures.reads c.from_residual.ensures.1

pub returns : goal.returns
returns g c = finds_both (λ standing f. Ok (is_there standing)) c.in_ok-standing.ensures.reads (finds_here refl (λ f. ap Ok (sym c.is_there.ensures)))
