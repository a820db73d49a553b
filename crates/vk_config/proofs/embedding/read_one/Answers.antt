use Rattle.std.proofs.Common.{ap, sym}
use Rattle.std.specs.Prelude.{Ok}
use Rattle.vk_base.specs.Stops.{fault_in}
use Rattle.vk_config.specs.Embedding.{only_one}
use Rattle.vk_config.proofs.StepLemmas.{fails_then}
use Rattle.vk_config.proofs.embedding.read_one.Goals as goal

pub returns-in-Ok : goal.returns-in-Ok
unfolding only_one
returns-in-Ok c = rw (c.in_ok-first.ensures, c.in-Ok.ensures) (ap Ok (sym c.either.ensures))

pub returns-in-Err : goal.returns-in-Err
unfolding only_one
returns-in-Err c =
    rw c.in_ok-first.ensures (fails_then (fault_in c.in-Err.fault) _ _ c.in-Err.ensures)
