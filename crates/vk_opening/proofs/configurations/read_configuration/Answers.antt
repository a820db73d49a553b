use Rattle.std.proofs.Common.{refl}
use Rattle.vk_files.proofs.FindLemmas.{finds_both, finds_ended}
use Rattle.vk_opening.specs.Configurations.{config_by, config_in}
use Rattle.vk_opening.specs.Views.{configuration_view}
use Rattle.vk_opening.proofs.configurations.read_configuration.Goals as goal

pub returns-in-Ok : goal.returns-in-Ok
unfolding config_in
returns-in-Ok g c = finds_both (λ standing f. config_by standing c.args.folder.now (configuration_view c.args.own) f) (rw c.in-Ok.is at c.config_standing.ensures) c.config_by.ensures

pub returns-in-Err : goal.returns-in-Err
unfolding config_in
returns-in-Err g c = finds_ended (λ standing f. config_by standing c.args.folder.now (configuration_view c.args.own) f) (rw c.in-Err.is at c.config_standing.ensures) refl
