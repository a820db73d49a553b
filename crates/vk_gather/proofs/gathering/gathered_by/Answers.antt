use Rattle.std.proofs.Common.{sym}
use Rattle.vk_gather.proofs.GatherSteps.{end_by_walk, end_is, never_files, never_start, walk_ended}
use Rattle.vk_gather.proofs.gathering.gathered_by.Goals as goal

pub end_of-requires : goal.end_of-requires
end_of-requires c = walk_ended c.args.gathering c.in-Walks.walk (sym c.in-Walks.is) c.requires

pub returns-in-Start : goal.returns-in-Start
returns-in-Start c = absurd (never_start c.args.gathering (sym c.in-Start.is) c.requires)

pub returns-in-Walks : goal.returns-in-Walks
returns-in-Walks c = end_by_walk c.args.gathering c.in-Walks.walk c.end_of.result (sym c.in-Walks.is) c.requires c.end_of.ensures

pub returns-in-Files : goal.returns-in-Files
returns-in-Files c = absurd (never_files c.args.gathering c.in-Files.left (sym c.in-Files.is) c.requires)

pub returns-in-Ended : goal.returns-in-Ended
returns-in-Ended c = end_is c.args.gathering c.in-Ended.result (sym c.in-Ended.is)
