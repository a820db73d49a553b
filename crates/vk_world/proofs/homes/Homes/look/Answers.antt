use Rattle.std.proofs.Common.{◌∙◌, sym, ap}
use Rattle.std.specs.Prelude.{bytes_eq}
use Rattle.std.specs.Option.{is_some}
use Rattle.vk_world.specs.HomeNotes.{boxed_home}
use Rattle.vk_files.proofs.NotedLemmas.{none_noted, placed_note}
use Rattle.vk_world.proofs.homes.Homes.look.Goals as goal

pub returns-in-Some-clause-there : goal.returns-in-Some-clause-there
returns-in-Some-clause-there g c = placed_note boxed_home (bytes_eq c.args.port.now) c.args.self.now.found.entries c.in-Some.place c.in-Some.ensures.index c.in-Some.ensures.within c.in-Some.ensures.value

pub ask-requires : goal.ask-requires
ask-requires g c = none_noted boxed_home (bytes_eq c.args.port.now) c.args.self.now.found.entries (sym c.get_index_of.ensures.found ∙ ap is_some c.in-None.is)
