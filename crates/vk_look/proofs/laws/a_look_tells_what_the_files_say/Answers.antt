use Rattle.vk_look.proofs.LookTells.{look_tells}
use Rattle.vk_look.proofs.laws.a_look_tells_what_the_files_say.Goals as goal

pub returns : goal.returns
returns c = look_tells
