use Rattle.vk_base.specs.Stops.{fault_in}
use Rattle.vk_config.proofs.StepLemmas.{fails_then}
use Rattle.vk_config.proofs.config_files.with_overlays.Goals as goal

pub returns-in-Ok : goal.returns-in-Ok
returns-in-Ok c = rw (c.in_ok-overlay_ports.ensures, c.in-Ok.ensures) c.with_registries.ensures

pub returns-in-Err : goal.returns-in-Err
returns-in-Err c =
    rw c.in_ok-overlay_ports.ensures (fails_then (fault_in c.in-Err.fault) _ _ c.in-Err.ensures)
