use Rattle.vk_manifest.proofs.DocumentLemmas.{fault_stands, no_document}
use Rattle.vk_manifest.proofs.laws.fault_places.Goals as goal

pub returns-clause-document : goal.returns-clause-document
returns-clause-document c = fault_stands

pub returns-clause-no_document : goal.returns-clause-no_document
returns-clause-no_document c = no_document
