use Rattle.vk_version.proofs.ApartLemmas.{class_apart}
use Rattle.vk_version.proofs.laws.classes_apart.Goals as goal

pub returns : goal.returns
returns c = class_apart
