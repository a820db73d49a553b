use Rattle.std.specs.Prelude.{bytes_eq}
use Rattle.vk_files.proofs.NotedLemmas.{kept_last}
use Rattle.vk_world.specs.HomeNotes.{boxed_home}
use Rattle.vk_world.proofs.homes.Homes.keep.Goals as goal

pub returns-clause-homes : goal.returns-clause-homes
returns-clause-homes c = kept_last boxed_home bytes_eq c.args.self.now.found c.args.port c.args.home _ c.insert.result (c.insert.ensures.succeeds c.requires.room) c.insert.ensures.entries c.requires.new
