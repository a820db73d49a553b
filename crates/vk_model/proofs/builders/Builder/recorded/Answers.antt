use Rattle.std.proofs.Common.{◌≡◌, sym, ◌∙◌, Ok}
use Rattle.vk_base.specs.Stops.{fault_in}
use Rattle.vk_model.specs.Builders.{recorded}
use Rattle.vk_model.proofs.BuilderLemmas.{recorded_reads, no_fault_told}
use Rattle.vk_model.proofs.builders.Builder.recorded.Goals as goal

pub memory_in-requires : goal.memory_in-requires
memory_in-requires c = no_fault_told (fault_in c.in-Err.unread) recorded (rw recorded_reads at c.in-Err.ensures)

pub returns-in-Ok : goal.returns-in-Ok
returns-in-Ok c =
    let same : Ok c.in-Ok.builder ≡ Ok recorded = sym c.in-Ok.ensures ∙ recorded_reads in (cc)
