use Rattle.vk_gather.proofs.GatherTells.{gather_tells}
use Rattle.vk_make.proofs.AloneLaw.{leaves_entries_by}
use Rattle.vk_make.proofs.laws.one_installer_leaves_whole_entries.Goals as goal

pub returns : goal.returns
returns c = leaves_entries_by gather_tells
