use Rattle.vk_publish.proofs.StepLemmas.{files_on}
use Rattle.vk_publish.proofs.publishing.came_to.Goals as goal

pub unreachable-requires-in-Files : goal.unreachable-requires-in-Files
unreachable-requires-in-Files c = files_on c.args.job.now c.args.at c.in-Files.number c.in-Files.next c.in-Files.is c.requires
