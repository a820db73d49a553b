use Rattle.vk_config.proofs.TellingLemmas.{config_stands, embedded_stands}
use Rattle.vk_config.proofs.laws.fault_places.Goals as goal

pub returns : goal.returns
returns c = record { file = config_stands; embedded = embedded_stands }
