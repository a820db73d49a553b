use Rattle.vk_config.specs.Readings.{config_at}
use Rattle.vk_config.proofs.config_files.ConfigObjectReader.read.Goals as goal

pub returns : goal.returns
unfolding config_at
returns c = rw (c.in_ok-object.ensures, c.in_ok-default.ensures) c.with_overlays.ensures
