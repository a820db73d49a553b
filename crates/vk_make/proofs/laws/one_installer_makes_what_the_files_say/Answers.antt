use Rattle.vk_gather.proofs.GatherTells.{gather_tells}
use Rattle.vk_make.proofs.AloneLaw.{makes_alone_by}
use Rattle.vk_make.proofs.laws.one_installer_makes_what_the_files_say.Goals as goal

pub returns : goal.returns
returns c = makes_alone_by gather_tells
