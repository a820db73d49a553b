use Rattle.std.proofs.Common.{refl}
use Rattle.vk_opening.proofs.OpenLemmas.{answers_lacking}
use Rattle.vk_opening.proofs.opens.ready.Goals as goal

pub returns-in-Err : goal.returns-in-Err
returns-in-Err c = answers_lacking refl
