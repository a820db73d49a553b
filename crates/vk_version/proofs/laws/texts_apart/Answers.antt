use Rattle.vk_version.proofs.ApartLemmas.{dotted_apart, strings_apart}
use Rattle.vk_version.proofs.laws.texts_apart.Goals as goal

pub returns : goal.returns
returns c = record { dotted = dotted_apart; strings = strings_apart }
