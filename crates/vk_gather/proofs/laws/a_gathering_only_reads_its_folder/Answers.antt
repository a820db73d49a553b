use Rattle.vk_gather.proofs.GatherAsks.{gather_reads, gather_below}
use Rattle.vk_gather.proofs.laws.a_gathering_only_reads_its_folder.Goals as goal

pub returns-clause-only : goal.returns-clause-only
returns-clause-only c = gather_reads

pub returns-clause-below : goal.returns-clause-below
returns-clause-below c = gather_below
