use Rattle.vk_registry.proofs.TellingLemmas.{baseline_stands, table_stands}
use Rattle.vk_registry.proofs.laws.fault_places.Goals as goal

pub returns : goal.returns
returns c = record { baseline = baseline_stands; table = table_stands }
