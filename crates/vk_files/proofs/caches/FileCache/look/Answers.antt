use Rattle.std.proofs.Common.{◌∙◌, sym, ap}
use Rattle.std.specs.Option.{is_some}
use Rattle.vk_files.specs.Views.{same_path, seen_view}
use Rattle.vk_files.proofs.NotedLemmas.{placed_note}
use Rattle.vk_files.proofs.CacheLemmas.{none_kept}
use Rattle.vk_files.proofs.caches.FileCache.look.Goals as goal

pub returns-in-Some-clause-there : goal.returns-in-Some-clause-there
returns-in-Some-clause-there g c = placed_note seen_view (same_path c.args.path.now) c.args.self.now.found.entries c.in-Some.place c.in-Some.ensures.index c.in-Some.ensures.within c.in-Some.ensures.value

pub ask-requires : goal.ask-requires
ask-requires g c = none_kept c.args.path.now c.args.self.now.found.entries (sym c.get_index_of.ensures.found ∙ ap is_some c.in-None.is)
